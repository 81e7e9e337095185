use Rattle.std.proofs.Common.{◌≡◌, true, false, sym, ap, ◌∙◌, string_bytes}
use Rattle.std.specs.Str.{bytes_eq}
use Rattle.std.specs.FinMap.{find, get-entries, keys, values, entries}
use Rattle.ov_specs.specs.schema.SchemaTypes.{name_cmp}
use Rattle.ov_rows.proofs.Names.{paired, paired-start, zip-entries, paired-end, find-paired, paired-more, paired-empty}
use Rattle.ov_rows.proofs.columns.Columns.get.Goals as goal

pub loop-known-preserved : goal.loop-known-preserved
loop-known-preserved c =
    let name = c.args.name.now in
    let later = c.next.new.self in
    let more = paired-more c.loop-known.known-iterator later c.next.result _ c.in-Some.is c.next.ensures.steps in
    let other : bytes_eq name (string_bytes c.in-Some.known.now) ≡ false = ap (bytes_eq name) (sym c.as_str.ensures.value) ∙ sym c.eq.ensures ∙ c.if-eq.false in
    sym (find-paired name c.in-Some.known.now c.in-Some.datum.now later.a.rest.now later.b false other)
    ∙ sym (λ i. find name_cmp name (paired (more.0 i) (more.1 i))) ∙ c.loop-known.invariant

pub returns-then-eq : goal.returns-then-eq
returns-then-eq c =
    let name = c.args.name.now in
    let later = c.next.new.self in
    let columns = c.args.self.now in
    let pairs = c.zip-known-items.ensures in
    let more = paired-more c.loop-known.known-iterator later c.next.result _ c.in-Some.is c.next.ensures.steps in
    let same : bytes_eq name (string_bytes c.in-Some.known.now) ≡ true = ap (bytes_eq name) (sym c.as_str.ensures.value) ∙ sym c.eq.ensures ∙ c.if-eq.true in
    let whole = paired-start _ _ _ _ (keys columns) (values columns) c.into_iter-known-iterator.ensures.into_iter_gives pairs.first c.iter.ensures.rest c.names.ensures (pairs.second ∙ c.values.ensures) ∙ zip-entries (entries columns) in
    sym (find-paired name c.in-Some.known.now c.in-Some.datum.now later.a.rest.now later.b true same)
    ∙ sym (λ i. find name_cmp name (paired (more.0 i) (more.1 i))) ∙ c.loop-known.invariant
    ∙ ap (find name_cmp name) whole ∙ sym (get-entries columns name)

pub returns : goal.returns
returns c =
    let name = c.args.name.now in
    let columns = c.args.self.now in
    let pairs = c.zip-known-items.ensures in
    let whole = paired-start _ _ _ _ (keys columns) (values columns) c.into_iter-known-iterator.ensures.into_iter_gives pairs.first c.iter.ensures.rest c.names.ensures (pairs.second ∙ c.values.ensures) ∙ zip-entries (entries columns) in
    let end = paired-end _ _ (paired-empty c.loop-known.known-iterator c.next.new.self c.next.result c.in-None.is c.next.ensures.steps) in
    sym (ap (find name_cmp name) end) ∙ c.loop-known.invariant ∙ ap (find name_cmp name) whole ∙ sym (get-entries columns name)
