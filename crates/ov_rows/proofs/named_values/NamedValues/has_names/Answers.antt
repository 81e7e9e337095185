use Rattle.std.proofs.Common.{◌≡◌, ◌<◌, ◌≤◌, ◌++◌, Bool, true, false, not, refl, length, take, map, string_bytes, sym, ap, ◌∙◌, append-nil, arith}
use Rattle.std.proofs.lemmas.Bool.Decides.{nat_tests}
use Rattle.std.proofs.lemmas.List.{take_all}
use Rattle.std.specs.Cmp.Lexicographic.{same_text}
use Rattle.std.specs.FinMap.{keys}
use Rattle.ov_specs.specs.rows.Database.{Columns}
use Rattle.ov_rows.proofs.Names.{entries-columns_of, keys-named}
use Rattle.ov_rows.proofs.Values.{names-more}
use Rattle.ov_rows.proofs.named_values.NamedValues.has_names.Goals as goal

was_seen : (b : Bool) → not b ≡ false → b ≡ true
was_seen true h = refl
was_seen false h = cc

pub loop-name-preserved : goal.loop-name-preserved
loop-name-preserved c =
    let listed = c.args.listed.now in
    let place = c.loop-name.place in
    let known = c.index-listed-place.result in
    let rest = map (λ e. string_bytes e.0) c.next.new.self in
    let within : place < length listed = c.if-place-listed.false in
    let same : c.as_str.result.now ≡ c.as_str-else-place-listed.result.now = same_text _ _ (sym (was_seen _ (sym c.ne.ensures ∙ c.if-ne.false))) in
    let is : string_bytes c.in-Some.name.now ≡ string_bytes known = sym c.as_str.ensures.value ∙ (same ∙ c.as_str-else-place-listed.ensures.value) in
    record {
      within = omega arith;
      same = names-more listed place known (string_bytes c.in-Some.name.now) rest within c.index-listed-place.is is
          ∙ (sym (ap (λ es. map string_bytes (take place listed) ++ map (λ e. string_bytes e.0) es) c.in-Some.ensures.steps) ∙ c.loop-name.invariant.same);
    }

pub returns : goal.returns
returns c = λ h.
    let listed = c.args.listed.now in
    let place = c.loop-name.place in
    let all = c.self.inside.values.entries in
    let full : length listed ≤ place = grind (arith, nat_tests, h) in
    let whole : map string_bytes listed ≡ map (λ e. string_bytes e.0) all =
    sym (ap (map string_bytes) (take_all place listed full)) ∙ (sym (append-nil (map string_bytes (take place listed)))
    ∙ (sym (ap (λ es. map string_bytes (take place listed) ++ map (λ e. string_bytes e.0) es) c.in-None.ensures.steps.0)
    ∙ (c.loop-name.invariant.same ∙ ap (map (λ e. string_bytes e.0)) c.into_iter-name-iterator.ensures.into_iter_gives.0))) in
    sym (whole ∙ (keys-named all ∙ (ap (map (λ e. e.0)) (sym (entries-columns_of all c.self.invariant)) ∙ ap (λ (m : Columns). keys m) c.self.view_is)))
