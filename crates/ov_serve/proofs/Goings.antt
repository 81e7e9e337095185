-- What a core entered and handed out, one part after another.
use Rattle.std.proofs.Common.{◌≡◌, ℕ, List, [], ◌∷◌, ◌++◌, map, Bool, true, false, cond, eqb, Option, Some, None, refl, sym, ap, subst, ◌∙◌, append_assoc}
use Rattle.std.specs.Prelude.{option_to_list, IfNone}
use Rattle.std.proofs.lemmas.List.{append-nil}
use Rattle.std.proofs.lemmas.Grind.{flat_map-append}
use Rattle.ov_specs.specs.machine.Machine.{State, Entry}
use Rattle.ov_specs.specs.machine.History.{joined}
use Rattle.ov_history.specs.Entries.{entry_view}
use Rattle.ov_outbox.specs.Frames.{waiting_for}
use Rattle.ov_core.specs.Following.{CoreState, Follows, Extends, and_handed, and_all_handed}
use Rattle.ov_core.proofs.Counted.{counts_none, counts_same, counts_on}
use Rattle.ov_history.proofs.Histories.{keeps_on}
use Rattle.ov_ends.specs.Writing.{WritesOf}
use Rattle.ov_serve.specs.Serving.{ExtendsHanding}
use Rattle.ov_serve.specs.Progress.{Sends}

-- the same frames were given
given_same : {K D : Type 0} (before : State) (history : List Entry) (given given' : ℕ → List (List ℕ)) (core : CoreState K D) → ((s : ℕ) → given s ≡ given' s) → Follows before history given core → Follows before history given' core
given_same before history given given' core same f = record {
  sent = f.sent;
  legal = f.legal;
  kept = f.kept;
  issued = λ s. f.issued s ∙ ap (λ (fs : List (List ℕ)). fs ++ waiting_for s core.outbox) (same s);
}

none_more : (b : Bool) (xs : List (List ℕ)) → xs ≡ xs ++ cond b [] []
none_more true xs = sym (append-nil xs)
none_more false xs = sym (append-nil xs)

some_more : (b : Bool) (xs fs gs : List (List ℕ)) → (xs ++ cond b fs []) ++ cond b gs [] ≡ xs ++ cond b (fs ++ gs) []
some_more true xs fs gs = append_assoc xs fs gs
some_more false xs fs gs = append-nil (xs ++ [])

module _ {K D : Type 0} (n : ℕ) where
  -- entries alone
  pub goes_by_entries : (a b : CoreState K D) (entries : List Entry) → Extends a entries b → ExtendsHanding n a entries [] b
  goes_by_entries a b entries enters = record {
    follows = λ before history given f. given_same before (history ++ entries) given (and_all_handed given n []) b (λ s. none_more (eqb s n) (given s)) (enters.follows before history given f);
    keeps = enters.keeps;
    counts = enters.counts;
  }

  -- nothing was done
  pub goes_nowhere : (a : CoreState K D) → ExtendsHanding n a [] [] a
  goes_nowhere a = goes_by_entries a a [] (record { follows = λ before history given f. subst (λ (h : List Entry). Follows before h given a) (sym (append-nil history)) f; keeps = refl; counts = counts_none a })

  -- a frame, if there is one
  pub goes_by_frame : (a b : CoreState K D) (frame : Option (List ℕ)) → b ≡ record a { outbox = b.outbox } → ((before : State) (history : List Entry) (given : ℕ → List (List ℕ)) → Follows before history given a → Follows before history (and_handed given n frame) b) → ExtendsHanding n a [] (option_to_list frame) b
  goes_by_frame a b frame same handed = record {
    follows = λ before history given f. subst (λ (h : List Entry). Follows before h (and_all_handed given n (option_to_list frame)) b) (sym (append-nil history)) (handed before history given f);
    keeps = ap (λ (r : CoreState K D). map entry_view r.kept) same;
    counts = counts_same a b same;
  }

  -- one part after another
  pub goes_on : (a b c : CoreState K D) (es fs : List Entry) (xs ys : List (List ℕ)) → ExtendsHanding n a es xs b → ExtendsHanding n b fs ys c → ExtendsHanding n a (es ++ fs) (xs ++ ys) c
  goes_on a b c es fs xs ys first then = record {
    follows = λ before history given f.
        subst (λ (h : List Entry). Follows before h (and_all_handed given n (xs ++ ys)) c) (append_assoc history es fs)
        (given_same before ((history ++ es) ++ fs) (and_all_handed (and_all_handed given n xs) n ys) (and_all_handed given n (xs ++ ys)) c (λ s. some_more (eqb s n) (given s) xs ys)
        (then.follows before (history ++ es) (and_all_handed given n xs) (first.follows before history given f)));
    keeps = keeps_on a.kept b.kept c.kept es fs first.keeps then.keeps;
    counts = counts_on a b c es fs first.counts then.counts;
  }

  -- then more entries
  pub goes_on_entering : (a b c : CoreState K D) (es fs : List Entry) (xs : List (List ℕ)) → ExtendsHanding n a es xs b → Extends b fs c → ExtendsHanding n a (es ++ fs) xs c
  goes_on_entering a b c es fs xs first then = record {
    follows = λ before history given f.
        subst (λ (h : List Entry). Follows before h (and_all_handed given n xs) c) (append_assoc history es fs)
        (then.follows before (history ++ es) (and_all_handed given n xs) (first.follows before history given f));
    keeps = keeps_on a.kept b.kept c.kept es fs first.keeps then.keeps;
    counts = counts_on a b c es fs first.counts then.counts;
  }

  -- then more frames
  pub goes_on_handing : (a b c : CoreState K D) (es : List Entry) (xs ys : List (List ℕ)) → ExtendsHanding n a es xs b → ExtendsHanding n b [] ys c → ExtendsHanding n a es (xs ++ ys) c
  goes_on_handing a b c es xs ys first then =
      subst (λ (h : List Entry). ExtendsHanding n a h (xs ++ ys) c) (append-nil es) (goes_on a b c es [] xs ys first then)

-- frames one after another
pub joined-append : (xs ys : List (List ℕ)) → joined (xs ++ ys) ≡ joined xs ++ joined ys
joined-append xs ys = flat_map-append (λ (bytes : List ℕ). bytes) xs ys

-- one frame more
pub joined-more : (xs : List (List ℕ)) (frame : List ℕ) → joined (xs ++ frame ∷ []) ≡ joined xs ++ frame
joined-more xs frame = joined-append xs (frame ∷ []) ∙ ap (λ (bytes : List ℕ). joined xs ++ bytes) (append-nil frame)

-- these bytes were written, and then all or a beginning of those
pub writes_on : (is_whole : Bool) (a b old mid new : List ℕ) → mid ≡ old ++ a → WritesOf is_whole b mid new → WritesOf is_whole (a ++ b) old new
writes_on true a b old mid new first then = then ∙ (ap (λ (bytes : List ℕ). bytes ++ b) first ∙ append_assoc old a b)
writes_on false a b old mid new first then =
    (a ++ then.0, then.1 ∙ (ap (λ (bytes : List ℕ). bytes ++ then.0) first ∙ append_assoc old a then.0), (then.2.0, append_assoc a then.0 then.2.0 ∙ ap (λ (bytes : List ℕ). a ++ bytes) then.2.1))

module _ {K D : Type 0} (n : ℕ) (a b c : CoreState K D) (frames : List (List ℕ)) (before told : List ℕ) (extends : ExtendsHanding n a [] frames b) (written : told ≡ before ++ joined frames) where
  -- one frame more was handed out, and written
  pub extends-more : (frame : List ℕ) → c ≡ record b { outbox = c.outbox } → ((s : State) (history : List Entry) (given : ℕ → List (List ℕ)) → Follows s history given b → Follows s history (and_handed given n (Some frame)) c) → ExtendsHanding n a [] (frames ++ frame ∷ []) c
  extends-more frame same handed = goes_on_handing n a b c [] frames (frame ∷ []) extends (goes_by_frame n b c (Some frame) same handed)

  pub writes-more : (is_whole : Bool) (frame bytes after : List ℕ) → bytes ≡ frame → WritesOf is_whole bytes told after → WritesOf is_whole (joined (frames ++ frame ∷ [])) before after
  writes-more is_whole frame bytes after same writes =
      subst (λ (all : List ℕ). WritesOf is_whole all before after) (sym (joined-more frames frame))
      (writes_on is_whole (joined frames) frame before told after written (subst (λ (all : List ℕ). WritesOf is_whole all told after) same writes))

  -- no frame was left, and what was written was flushed, or not
  pub sends-last : (is_whole : Bool) (frame : Option (List ℕ)) (after : List ℕ) → frame ≡ None → waiting_for n b.outbox ≡ option_to_list frame ++ waiting_for n c.outbox → IfNone frame (waiting_for n b.outbox ≡ []) → c ≡ record b { outbox = c.outbox } → ((s : State) (history : List Entry) (given : ℕ → List (List ℕ)) → Follows s history given b → Follows s history (and_handed given n frame) c) → after ≡ told → Sends n is_whole a c before after
  sends-last is_whole frame after none oldest empty aside handed same = record {
    frames = frames;
    extends = subst (λ (xs : List (List ℕ)). ExtendsHanding n a [] xs c) (append-nil frames)
        (goes_on_handing n a b c [] frames [] extends (subst (λ (o : Option (List ℕ)). ExtendsHanding n b [] (option_to_list o) c) none (goes_by_frame n b c frame aside handed)));
    written = all_or_some is_whole;
    none_left = λ whole. left_none frame none oldest empty;
  }
    where
      left_none : (o : Option (List ℕ)) → o ≡ None → waiting_for n b.outbox ≡ option_to_list o ++ waiting_for n c.outbox → IfNone o (waiting_for n b.outbox ≡ []) → waiting_for n c.outbox ≡ []
      left_none None is oldest' empty' = sym oldest' ∙ empty'
      left_none (Some frame') is oldest' empty' = cc

      all_or_some : (w : Bool) → WritesOf w (joined frames) before after
      all_or_some true = same ∙ written
      all_or_some false = (joined frames, same ∙ written, ([], append-nil (joined frames)))
