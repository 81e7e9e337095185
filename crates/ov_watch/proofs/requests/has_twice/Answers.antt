use Rattle.std.proofs.Common.{◌≡◌, ◌<◌, ◌+◌, [], ◌∷◌, ◌++◌, map, take, drop, length, true, false, cond, sym, ap, ◌∙◌}
use Rattle.std.specs.Cmp.Lexicographic.{slice_cmp}
use Rattle.std.specs.Ordering.{nat_cmp, eq_by_cmp}
use Rattle.std.proofs.lemmas.List.{take_more, map-append, take-append-drop}
use Rattle.std.specs.List.{list_any}
use Rattle.std.specs.Str.{bytes_eq}
use Rattle.ov_specs.specs.schema.Schema.{has_twice}
use Rattle.ov_projection.proofs.Equal.{map-push}
use Rattle.ov_watch.proofs.Twice.{any_key, seen-push, seen-once, seen-twice, not_again, is_again}
use Rattle.ov_watch.proofs.requests.has_twice.Goals as goal

pub loop-name-preserved : goal.loop-name-preserved
loop-name-preserved c =
    let names = c.args.names.now in
    let i = c.loop-name.name-index in
    let name = c.name-item.result in
    let front = map (λ t. t.now) (take i names) in
    let within : i < length names = c.loop-name-test.true in
    let more : map (λ t. t.now) (take (i + 1) names) ≡ front ++ name.now ∷ [] =
    ap (map (λ t. t.now)) (take_more names i name within ∙ ap (λ y. take i names ++ y ∷ []) (sym c.name-item.is)) ∙ map-push (λ t. t.now) (take i names) name in
    let fresh : any_key c.as_str.result.now c.loop-name.seen.keys ≡ false = not_again _ _ c.in_ok-insert.ensures.added c.if-not-branch.false in
    record {
      once = ap has_twice more ∙ seen-once front name.now c.loop-name.invariant.once (sym (c.loop-name.invariant.seen name.now) ∙ ap (λ q. any_key q c.loop-name.seen.keys) (sym c.as_str.ensures) ∙ fresh);
      seen = λ q. seen-push front name.now c.loop-name.seen.keys c.insert.new.self.keys c.loop-name.invariant.seen (λ q'.
          c.in_ok-insert.ensures.updates.0 (record { ref_ptr = (0, 0); now = q' }) ∙ ap (λ n. cond (eq_by_cmp (slice_cmp nat_cmp) n q') true (any_key q' c.loop-name.seen.keys)) c.as_str.ensures) q
          ∙ sym (ap (list_any (bytes_eq q)) more);
    }

pub returns-then-not-branch : goal.returns-then-not-branch
returns-then-not-branch c =
    let names = c.args.names.now in
    let i = c.loop-name.name-index in
    let name = c.name-item.result in
    let front = map (λ t. t.now) (take i names) in
    let within : i < length names = c.loop-name-test.true in
    let more : map (λ t. t.now) (take (i + 1) names) ≡ front ++ name.now ∷ [] =
    ap (map (λ t. t.now)) (take_more names i name within ∙ ap (λ y. take i names ++ y ∷ []) (sym c.name-item.is)) ∙ map-push (λ t. t.now) (take i names) name in
    let again : any_key c.as_str.result.now c.loop-name.seen.keys ≡ true = is_again _ _ c.in_ok-insert.ensures.added c.if-not-branch.true in
    sym (ap has_twice (ap (map (λ t. t.now)) (sym (take-append-drop (i + 1) names)) ∙ map-append (λ t. t.now) (take (i + 1) names) (drop (i + 1) names) ∙ ap (λ ns. ns ++ map (λ t. t.now) (drop (i + 1) names)) more)
    ∙ seen-twice front name.now (map (λ t. t.now) (drop (i + 1) names)) (sym (c.loop-name.invariant.seen name.now) ∙ ap (λ q. any_key q c.loop-name.seen.keys) (sym c.as_str.ensures) ∙ again))
