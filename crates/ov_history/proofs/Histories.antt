-- The entries that are kept of a history.
use Rattle.std.proofs.Common.{◌≡◌, ℕ, ◌+◌, ◌-◌, List, [], ◌∷◌, ◌++◌, map, take, drop, length, true, Some, refl, sym, ap, ◌∙◌, append_assoc, arith}
use Rattle.std.specs.Prelude.{◌&&◌}
use Rattle.std.specs.List.{list_all}
use Rattle.std.proofs.lemmas.Bool.{and_from}
use Rattle.std.proofs.lemmas.List.Folds.{list_all-append}
use Rattle.std.proofs.lemmas.List.{length-append, length-map, length-drop, drop-drop, drop-append-le, drop-map, take-append-drop, map-append}
use Rattle.ov_specs.specs.machine.Machine as machine
use Rattle.ov_specs.specs.machine.Machine.{State, Sent}
use Rattle.ov_specs.specs.machine.Suiting.{draws_uuids}
use Rattle.ov_specs.proofs.laws.Histories.{run_more}
use Rattle.ov_history.specs.declared.event.Entry.{Entry}
use Rattle.ov_history.specs.Entries.{entry_view}
use Rattle.ov_history.specs.History.{most_entries, newest, Keeps, newest_after, KeepsNewest, HasHistory}

-- with one more entry, the newest of the newest are the newest of all
pub newest-newest : {A : Type 0} (xs : List A) (y : A) → newest (newest xs ++ y ∷ []) ≡ newest (xs ++ y ∷ [])
newest-newest xs y =
    let n = length xs - most_entries in
    let parts : drop n (xs ++ y ∷ []) ≡ drop n xs ++ y ∷ [] = drop-append-le n xs (y ∷ []) (omega arith) in
    let count : n + (length (drop n xs ++ y ∷ []) - most_entries) ≡ length (xs ++ y ∷ []) - most_entries = omega (arith, length-append (drop n xs) (y ∷ []), length-append xs (y ∷ []), length-drop n xs) in
    ap (drop (length (drop n xs ++ y ∷ []) - most_entries)) (sym parts)
    ∙ (drop-drop (length (drop n xs ++ y ∷ []) - most_entries) n (xs ++ y ∷ []) ∙ ap (λ (k : ℕ). drop k (xs ++ y ∷ [])) count)

-- the newest of what is seen
pub map-newest : {A B : Type 0} (f : A → B) (xs : List A) → map f (newest xs) ≡ newest (map f xs)
map-newest f xs = sym (drop-map f (length xs - most_entries) xs) ∙ ap (λ (k : ℕ). drop (k - most_entries) (map f xs)) (sym (length-map xs f))

-- the newest come last
pub newest-last : {A : Type 0} (xs : List A) (y : A) → newest (xs ++ y ∷ []) ≡ drop (length (xs ++ y ∷ []) - most_entries) xs ++ y ∷ []
newest-last xs y = drop-append-le (length (xs ++ y ∷ []) - most_entries) xs (y ∷ []) (omega (arith, length-append xs (y ∷ [])))

-- an entry that was appended, as the machine's
pub entered_after : (old new : List Entry) (x : Entry) (e : machine.Entry) → new ≡ newest (old ++ x ∷ []) → entry_view x ≡ e → KeepsNewest old (e ∷ []) new
entered_after old new x e added is =
    ap (map entry_view) added ∙ (map-newest entry_view (old ++ x ∷ []) ∙ ap newest (map-append entry_view old (x ∷ []) ∙ ap (λ (y : machine.Entry). map entry_view old ++ y ∷ []) is))

-- if the history ends with the entries kept before, it ends with those kept after one more
pub keeps_more : (old new : List Entry) (history : List machine.Entry) (e : machine.Entry) → Keeps old history → KeepsNewest old (e ∷ []) new → Keeps new (history ++ e ∷ [])
keeps_more old new history e (front, is) keeps =
    let all = map entry_view old ++ e ∷ [] in
    let n = length all - most_entries in (
      front ++ take n all,
      append_assoc front (take n all) (map entry_view new)
          ∙ (ap (λ (l : List machine.Entry). front ++ (take n all ++ l)) keeps
          ∙ (ap (λ (l : List machine.Entry). front ++ l) (take-append-drop n all)
          ∙ (sym (append_assoc front (map entry_view old) (e ∷ [])) ∙ ap (λ (l : List machine.Entry). l ++ e ∷ []) is))),
    )

-- entries in two parts
pub newest_after-append : (kept xs ys : List machine.Entry) → newest_after kept (xs ++ ys) ≡ newest_after (newest_after kept xs) ys
newest_after-append kept [] ys = refl
newest_after-append kept (x ∷ xs) ys = newest_after-append (newest (kept ++ x ∷ [])) xs ys

-- entries that were appended in two parts
pub keeps_on : (old mid new : List Entry) (xs ys : List machine.Entry) → KeepsNewest old xs mid → KeepsNewest mid ys new → KeepsNewest old (xs ++ ys) new
keeps_on old mid new xs ys first then =
    then ∙ (ap (λ (kept : List machine.Entry). newest_after kept ys) first ∙ sym (newest_after-append (map entry_view old) xs ys))

-- the last entry is kept
pub keeps_last : (old new : List Entry) (front : List machine.Entry) (last : machine.Entry) → KeepsNewest old (front ++ last ∷ []) new → (before : List machine.Entry) × (map entry_view new ≡ before ++ last ∷ [])
keeps_last old new front last keeps =
    let kept = newest_after (map entry_view old) front in
    (drop (length (kept ++ last ∷ []) - most_entries) kept, keeps ∙ (newest_after-append (map entry_view old) front (last ∷ []) ∙ newest-last kept last))

-- with one more entry, there is still a legal history
pub has_more : (s t : State) (old new : List Entry) (e : machine.Entry) (sent : List Sent) → machine.step s e ≡ Some (record { state = t; sent = sent }) → draws_uuids e ≡ true → KeepsNewest old (e ∷ []) new → HasHistory s old → HasHistory t new
has_more s t old new e sent stepped uuids keeps has = record {
  schema = has.schema;
  database = has.database;
  suits = has.suits;
  history = has.history ++ e ∷ [];
  sent = has.sent ++ sent;
  legal = run_more (machine.opening has.schema has.database) has.history e (record { state = s; sent = has.sent }) (record { state = t; sent = sent }) has.legal stepped;
  uuids = list_all-append draws_uuids has.history (e ∷ []) ∙ and_from (list_all draws_uuids has.history) (draws_uuids e && true) has.uuids (and_from (draws_uuids e) true uuids refl);
  ends = keeps ∙ (ap (λ (kept : List machine.Entry). newest (kept ++ e ∷ [])) has.ends ∙ newest-newest has.history e);
}
