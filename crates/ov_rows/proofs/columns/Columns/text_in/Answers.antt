use Rattle.std.proofs.Common.{rules, ◌≡◌, ◌++◌, ◌∷◌, [], flat_map, sym, true, None, if◌then◌else◌, ap, ◌∙◌, append_assoc, append-nil}
use Rattle.std.specs.FinMap.{keys, values, entries}
use Rattle.json.specs.Token.{begin_object, end_object}
use Rattle.json.specs.Print.{print}
use Rattle.std.specs.Str.{is_utf8}
use Rattle.std.proofs.lemmas.Str.{is_utf8-from_IsUtf8}
use Rattle.serde_json.specs.Read.{read}
use Rattle.ov_specs.specs.wire.Message.{tree_of}
use Rattle.ov_atoms.specs.Tokens.{tokens_of}
use Rattle.ov_rows.specs.Body.{body_of, column_tokens}
use Rattle.ov_rows.proofs.BodyText.{body-tokens, body-text, body-reads-back}
use Rattle.ov_rows.proofs.Names.{paired, paired-start, zip-entries, paired-end, paired-more, paired-empty}
use Rattle.ov_rows.proofs.columns.Columns.text_in.Goals as goal

pub loop-name-preserved : goal.loop-name-preserved
loop-name-preserved c =
    let later = c.next.new.self in
    let rest = flat_map column_tokens (paired later.a.rest.now later.b) in
    let more = paired-more c.loop-name.name-iterator later c.next.result _ c.in-Some.is c.next.ensures.steps in
    record {
      before = c.in_ok-put_column.ensures.before ∙ c.loop-name.invariant.before;
      put_so_far = ap (λ ts. ts ++ rest) c.in_ok-put_column.ensures.ok
          ∙ append_assoc c.loop-name.out.tokens _ rest
          ∙ ap (λ name. c.loop-name.out.tokens ++ (column_tokens (name, c.in-Some.datum.now) ++ rest)) c.as_str.ensures.value
          ∙ sym (λ i. c.loop-name.out.tokens ++ flat_map column_tokens (paired (more.0 i) (more.1 i))) ∙ c.loop-name.invariant.put_so_far;
    }

all_put : (c : goal.After-from_vec) → c.end_object.new.self.tokens ≡ tokens_of (body_of c.args.self.now)
all_put c =
    let columns = c.args.self.now in
    let pairs = c.zip-name-items.ensures in
    let first = c.into_iter-name-iterator.result in
    let last = c.next.new.self in
    let whole = paired-start _ _ _ _ (keys columns) (values columns) c.into_iter-name-iterator.ensures.into_iter_gives pairs.first c.iter.ensures.rest c.names.ensures (pairs.second ∙ c.values.ensures) ∙ zip-entries (entries columns) in
    let end = paired-end _ _ (paired-empty c.loop-name.name-iterator last c.next.result c.in-None.is c.next.ensures.steps) in
    let begun : c.begin_object.new.self.tokens ≡ begin_object ∷ [] = search rules in
    let put : c.loop-name.out.tokens ≡ c.begin_object.new.self.tokens ++ flat_map column_tokens (paired first.a.rest.now first.b) =
    sym (append-nil c.loop-name.out.tokens) ∙ (sym (ap (λ es. c.loop-name.out.tokens ++ flat_map column_tokens es) end) ∙ c.loop-name.invariant.put_so_far) in
    c.in_ok-end_object.ensures.ok
    ∙ (ap (λ ts. ts ++ end_object ∷ []) (put ∙ ap (λ ts. ts ++ flat_map column_tokens (paired first.a.rest.now first.b)) begun)
    ∙ (ap (λ es. begin_object ∷ (flat_map column_tokens es ++ end_object ∷ [])) whole ∙ body-tokens c.args.self.now))

text_is : (c : goal.After-from_vec) → c.from_vec.result ≡ print c.end_object.new.self.tokens
text_is c =
    let empty : c.end_object.new.self.before ≡ [] = c.in_ok-end_object.ensures.room.0 ∙ c.loop-name.invariant.before in
    c.from_vec.ensures ∙ (c.into_inner.ensures.items ∙ ap (λ before. before ++ print c.end_object.new.self.tokens) empty)

pub returns-clause-text : goal.returns-clause-text
returns-clause-text c = text_is c ∙ body-text c.args.self.now c.end_object.new.self.tokens (all_put c)

pub returns-clause-reads_back : goal.returns-clause-reads_back
returns-clause-reads_back c of_kinds =
    let read_back = body-reads-back c.args.self.now c.end_object.new.self.tokens of_kinds (all_put c) c.into_inner.ensures.reads_back in
    let in_utf8 : is_utf8 (print c.end_object.new.self.tokens) ≡ true = is_utf8-from_IsUtf8 _ c.into_inner.ensures.utf8 in
    ap tree_of (text_is c) ∙ (ap (λ b. if b then read (print c.end_object.new.self.tokens) else None) in_utf8 ∙ read_back)
