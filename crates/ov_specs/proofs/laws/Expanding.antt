-- Lists of stream events, one after another.
use Rattle.std.proofs.Common.{ℕ, List, [], ◌∷◌, ◌++◌, map, refl, sym, ap, subst, ◌∙◌, append_assoc}
use Rattle.std.proofs.lemmas.List.{append-nil, map-append}
use Rattle.ov_specs.specs.machine.Machine.{Entry}
use Rattle.ov_specs.specs.machine.Streams.{StreamEvent, FedState, Expands, ExpandsTimed, ExpandsAll}

-- two lists of events, each with its part of the history
pub one_after_another : (a : FedState) (list : List (ℕ × StreamEvent)) (h : List Entry) (b : FedState) (more : List (ℕ × StreamEvent)) (k : List Entry) (c : FedState)
    → ExpandsTimed a list h b → ExpandsTimed b more k c → ExpandsTimed a (list ++ more) (h ++ k) c
one_after_another a [] h b more k c (none, same) then =
    subst (λ (l : List Entry). ExpandsTimed a more l c) (ap (λ (l : List Entry). l ++ k) (sym none)) (subst (λ (x : FedState). ExpandsTimed x more k c) same then)
one_after_another a (e ∷ list) h b more k c (front, rest, between, parts, one, others) then =
    (front, rest ++ k, between, ap (λ (l : List Entry). l ++ k) parts ∙ append_assoc front rest k, one, one_after_another between list rest b more k c others then)

-- one event
pub one_event : (at : ℕ) (a : FedState) (e : StreamEvent) (h : List Entry) (b : FedState) → Expands at a e h b → ExpandsTimed a ((at, e) ∷ []) h b
one_event at a e h b one = (h, [], b, sym (append-nil h), one, (refl, refl))

-- one event more, at the last moment
pub one_more : (a : FedState) (list : List StreamEvent) (h : List Entry) (b : FedState) (e : StreamEvent) (k : List Entry) (c : FedState)
    → ExpandsAll a list h b → Expands 0 b e k c → ExpandsAll a (list ++ e ∷ []) (h ++ k) c
one_more a list h b e k c all one =
    subst (λ (l : List (ℕ × StreamEvent)). ExpandsTimed a l (h ++ k) c) (sym (map-append (λ (f : StreamEvent). (0, f)) list (e ∷ [])))
    (one_after_another a (map (λ (f : StreamEvent). (0, f)) list) h b ((0, e) ∷ []) k c all (one_event 0 b e k c one))
