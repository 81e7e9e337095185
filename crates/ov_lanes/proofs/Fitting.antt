-- A lane fits the course of its session, and goes on fitting it.
use Rattle.std.proofs.Common.{◌≡◌, ◌≢◌, ◌⊎◌, inl, inr, ℕ, ◌≤◌, ◌<◌, List, [], ◌∷◌, ◌++◌, length, refl, sym, ap, subst, ◌∙◌, append_assoc, append-nil, arith, Bool, true, false, Option, Some, None}
use Rattle.std.specs.Prelude.{not, is_some, unwrap_or}
use Rattle.std.specs.Option.{option_or}
use Rattle.std.proofs.lemmas.Bool.{false≢true}
use Rattle.std.proofs.lemmas.List.{length-append, length-map, map-append}
use Rattle.ov_specs.specs.wire.Beginning.{BeginsAs}
use Rattle.ov_specs.specs.wire.Message.{Message}
use Rattle.ov_specs.specs.machine.Machine as machine
use Rattle.ov_order.specs.declared.items.Brought.{Brought}
use Rattle.ov_order.specs.declared.items.Brought.TheVariants.{Message as Brings, End as Last}
use Rattle.ov_order.specs.declared.items.Sent.{Sent}
use Rattle.ov_order.specs.declared.items.Sent.TheVariants.{Frame, End}
use Rattle.ov_workers.specs.declared.cause.ReadCause.{ReadCause}
use Rattle.ov_workers.specs.declared.cause.ReadCause.TheVariants as reads
use Rattle.ov_history.specs.declared.event.Cause.{Cause}
use Rattle.ov_history.specs.declared.event.Cause.TheVariants.{Memory}
use Rattle.ov_history.specs.Entries.{cause_view}
use Rattle.ov_lanes.specs.Courses.{Course, Spares}
use Rattle.ov_lanes.specs.Fitting.{Items, brought, end_cause, is_by_reader, Took, framed, AreDroppedForRoom, PutsFrames, Knows, most_frames, FitsCourse, IsFlushed, IsShut}
use Rattle.ov_lanes.proofs.Own.{OwnHanded, OwnClosed, OwnTook}

-- ---- whether a session is open, and why it was closed

is_none : {A : Type 0} (o : Option A) → is_some o ≡ false → o ≡ None
is_none None h = refl
is_none (Some x) h = cc

some_of : {A : Type 0} (o : Option A) → is_some o ≡ true → (x : A) × (o ≡ Some x)
some_of None h = cc
some_of (Some x) h = (x, refl)

not_true : (b : Bool) → not b ≡ true → b ≡ false
not_true true h = cc
not_true false h = refl

by_reader_some : (o : Option machine.Cause) → is_by_reader o ≡ true → is_some o ≡ true
by_reader_some None h = cc
by_reader_some (Some cause) h = refl

-- one that is open was not closed
not_closed : (c : Course) → is_some c.closed ≡ not c.is_open → c.is_open ≡ true → c.closed ≡ None
not_closed c opens there = is_none c.closed (opens ∙ ap not there)

-- one that is not open was closed
was_closed : (c : Course) → is_some c.closed ≡ not c.is_open → c.is_open ≡ false → (x : machine.Cause) × (c.closed ≡ Some x)
was_closed c opens away = some_of c.closed (opens ∙ ap not away)

-- one that its reader closed is not open
shut_by_reader : (c : Course) → is_some c.closed ≡ not c.is_open → is_by_reader c.closed ≡ true → c.is_open ≡ false
shut_by_reader c opens by = not_true c.is_open (sym opens ∙ by_reader_some c.closed by)

-- ---- lists

first_empty : {A : Type 0} (xs ys : List A) → xs ++ ys ≡ [] → xs ≡ []
first_empty [] ys h = refl
first_empty (x ∷ xs) ys h = cc

second_empty : {A : Type 0} (xs ys : List A) → xs ++ ys ≡ [] → ys ≡ []
second_empty [] ys h = h
second_empty (x ∷ xs) ys h = cc

one_more_is_some : {A : Type 0} (xs : List A) (x : A) (ys : List A) → (xs ++ x ∷ []) ++ ys ≡ [] → ⊥
one_more_is_some [] x ys h = cc
one_more_is_some (y ∷ xs) x ys h = cc

pub framed-append : (xs ys : List (List ℕ)) → framed (xs ++ ys) ≡ framed xs ++ framed ys
framed-append xs ys = map-append (λ (bytes : List ℕ). Frame bytes) xs ys

brought-more : (messages : List Message) (message : Message) → brought (messages ++ message ∷ []) ≡ brought messages ++ Brings message ∷ []
brought-more messages message = map-append (λ (m : Message). Brings m) messages (message ∷ [])

-- ---- what was taken

took_as : (closed closed' : Option machine.Cause) (asks asks' : List Message) (items : Items) → closed' ≡ closed → asks' ≡ asks → Took closed asks items → Took closed' asks' items
took_as closed closed' asks asks' items same same' t =
    subst (λ (o : Option machine.Cause). Took o asks' items) (sym same) (subst (λ (l : List Message). Took closed l items) (sym same') t)

-- what comes after a closing is dropped
took_dropped : (x : machine.Cause) (asks : List Message) (items : Items) (item : Brought Message ReadCause) → Took (Some x) asks items → Took (Some x) asks (items ++ item ∷ [])
took_dropped x asks items item t = (
  t.0 ++ item ∷ [],
  ap (λ (l : Items). l ++ item ∷ []) t.1 ∙ append_assoc (brought asks) t.0 (item ∷ []),
  λ of. let e = t.2 of in (e.0, e.1 ++ item ∷ [], ap (λ (l : Items). l ++ item ∷ []) e.2, e.3),
)

took_after : (closed : Option machine.Cause) (asks : List Message) (items : Items) (item : Brought Message ReadCause) → is_some closed ≡ true → Took closed asks items → Took closed asks (items ++ item ∷ [])
took_after None asks items item some t = cc
took_after (Some x) asks items item some t = took_dropped x asks items item t

-- ---- why entries closed it

shut_as : (closed closed' : Option machine.Cause) (shut shut' : List machine.Cause) (asks asks' : List Message) (items : Items) → closed' ≡ closed → shut' ≡ shut → asks' ≡ asks → IsShut closed shut asks items → IsShut closed' shut' asks' items
shut_as closed closed' shut shut' asks asks' items same same' same'' s =
    subst (λ (o : Option machine.Cause). IsShut o shut' asks' items) (sym same)
    (subst (λ (l : List machine.Cause). IsShut closed l asks' items) (sym same') (subst (λ (l : List Message). IsShut closed shut l items) (sym same'') s))

-- what comes after a closing
shut_after : (closed : Option machine.Cause) (shut : List machine.Cause) (asks : List Message) (items : Items) (item : Brought Message ReadCause) → is_some closed ≡ true → IsShut closed shut asks items → IsShut closed shut asks (items ++ item ∷ [])
shut_after None shut asks items item some s = cc
shut_after (Some x) shut asks items item some (inl none) = inl none
shut_after (Some x) shut asks items item some (inr (inl over)) = inr (inl over)
shut_after (Some x) shut asks items item some (inr (inr (other, others, is))) =
    inr (inr (other, others ++ item ∷ [], ap (λ (l : Items). l ++ item ∷ []) is ∙ append_assoc (brought asks) (other ∷ others) (item ∷ [])))

-- no entry closed one that is open
not_shut : (c : Course) (items : Items) → c.closed ≡ None → IsShut c.closed c.shut c.asks items → c.shut ≡ []
not_shut c items none s = subst (λ (o : Option machine.Cause). IsShut o c.shut c.asks items) none s

-- ---- what was put

puts_spared : (c d : Course) (marked : Bool) (put : List Sent) → Spares c d → is_some c.closed ≡ not c.is_open → d.is_open ≡ c.is_open → d.closed ≡ c.closed → PutsFrames c marked put → PutsFrames d marked put
puts_spared c d false put s opens same_open same_closed p = (
  p.0 ∙ ap framed (sym s.handed),
  λ by.
      let by' : is_by_reader c.closed ≡ true = sym (ap is_by_reader same_closed) ∙ by in
      s.waiting ∙ (ap (λ (l : List (List ℕ)). c.waiting ++ l) (s.silent (shut_by_reader c opens by')) ∙ (append-nil c.waiting ∙ p.1 by')),
)
puts_spared c d true put s opens same_open same_closed p = (
  same_open ∙ p.0,
  s.waiting ∙ (ap (λ (l : List (List ℕ)). c.waiting ++ l) (s.silent p.0) ∙ (append-nil c.waiting ∙ p.1)),
  (p.2.0, p.2.1, subst (λ (l : List (List ℕ)). BeginsAs p.2.0 l) (sym s.handed) p.2.2, λ by. p.2.3 (sym (ap is_by_reader same_closed) ∙ by) ∙ sym s.handed, subst (λ (l : List (List ℕ)). AreDroppedForRoom p.2.0 l) (sym s.handed) p.2.4),
)

puts_shut : (c d : Course) (marked : Bool) (put : List Sent) → Spares c d → c.is_open ≡ true → is_by_reader d.closed ≡ false → PutsFrames c marked put → PutsFrames d marked put
puts_shut c d false put s was not_by p = (p.0 ∙ ap framed (sym s.handed), λ by. absurd (false≢true (sym not_by ∙ by)))
puts_shut c d true put s was not_by p = absurd (false≢true (sym p.0 ∙ was))

knows_memory : (closed closed' : Option machine.Cause) (known : Option Cause) → closed ≡ None → closed' ≡ Some machine.Memory → Knows closed known → Knows closed' known
knows_memory closed closed' None none is k = inr is
knows_memory closed closed' (Some cause) none is k = let no : None ≡ Some (cause_view cause) = sym none ∙ k in cc

-- ---- a session that was not meant

module _ (c d : Course) (known : Option Cause) (items : Items) (put : List Sent) (marked ended : Bool) (s : Spares c d) (f : FitsCourse c known items put marked ended) where
  spared_on : d.is_open ≡ c.is_open → d.closed ≡ c.closed → FitsCourse d known items put marked ended
  spared_on same_open same_closed = record {
    took = took_as c.closed d.closed c.asks d.asks items same_closed s.asks f.took;
    shut = shut_as c.closed d.closed c.shut d.shut c.asks d.asks items same_closed s.shut s.asks f.shut;
    puts = puts_spared c d marked put s f.opens same_open same_closed f.puts;
    knows = subst (λ (o : Option machine.Cause). Knows o known) (sym same_closed) f.knows;
    ends = λ is. same_open ∙ f.ends is;
    opens = ap is_some same_closed ∙ (f.opens ∙ ap not (sym same_open));
    unfailed = λ is. f.unfailed (sym same_closed ∙ is);
    overrun = λ is. let was = f.overrun (sym same_closed ∙ is) in omega (arith, was, ap length s.handed, ap length s.waiting, length-append c.waiting s.more);
  }

  spared_shut : c.is_open ≡ true → d.is_open ≡ false → d.closed ≡ option_or c.closed (Some machine.Memory) → FitsCourse d known items put marked ended
  spared_shut was away closed =
      let none : c.closed ≡ None = not_closed c f.opens was in
      let memory : d.closed ≡ Some machine.Memory = closed ∙ ap (λ (o : Option machine.Cause). option_or o (Some machine.Memory)) none in
      let took : items ≡ brought c.asks = subst (λ (o : Option machine.Cause). Took o c.asks items) none f.took in
      record {
        took = subst (λ (o : Option machine.Cause). Took o d.asks items) (sym memory)
            ([], took ∙ (ap brought (sym s.asks) ∙ sym (append-nil (brought d.asks))), λ of. absurd (false≢true of));
        shut = subst (λ (o : Option machine.Cause). IsShut o d.shut d.asks items) (sym memory) (inl (s.shut ∙ not_shut c items none f.shut));
        puts = puts_shut c d marked put s was (ap is_by_reader memory) f.puts;
        knows = knows_memory c.closed d.closed known none memory f.knows;
        ends = λ is. away;
        opens = ap is_some memory ∙ sym (ap not away);
        unfailed = λ is. let other : Some machine.Memory ≡ Some machine.WriteFault = sym memory ∙ is in cc;
        overrun = λ is. let no : Some machine.Memory ≡ Some machine.Overrun = sym memory ∙ is in cc;
      }

  pub fits_spared : FitsCourse d known items put marked ended
  fits_spared = elim s.closes [
    | inl (same_open, same_closed) ↦ spared_on same_open same_closed
    | inr (was, away, closed) ↦ spared_shut was away closed
  ]

-- ---- frames

module _ (c d : Course) (known : Option Cause) (items : Items) (put put' : List Sent) (ended : Bool) where
  -- all frames that waited were put
  pub fits_moved : (frames : List (List ℕ)) → OwnHanded c d frames → put' ≡ put ++ framed frames → FitsCourse c known items put false ended → FitsCourse d known items put' false ended
  fits_moved frames o is f = record {
    took = took_as c.closed d.closed c.asks d.asks items o.closed o.asks f.took;
    shut = shut_as c.closed d.closed c.shut d.shut c.asks d.asks items o.closed o.shut o.asks f.shut;
    puts = (
      is ∙ (ap (λ (l : List Sent). l ++ framed frames) f.puts.0 ∙ (sym (framed-append c.handed frames) ∙ ap framed (sym o.handed))),
      λ by. second_empty frames d.waiting (sym o.waiting ∙ f.puts.1 (sym (ap is_by_reader o.closed) ∙ by)),
    );
    knows = subst (λ (k : Option machine.Cause). Knows k known) (sym o.closed) f.knows;
    ends = λ e. o.is_open ∙ f.ends e;
    opens = ap is_some o.closed ∙ (f.opens ∙ ap not (sym o.is_open));
    unfailed = λ e. f.unfailed (sym o.closed ∙ e);
    overrun = λ e. let was = f.overrun (sym o.closed ∙ e) in omega (arith, was, ap length o.handed, ap length o.waiting, length-append c.handed frames, length-append frames d.waiting);
  }

-- what is known once a closed session is marked
pub knows_marked : (closed : Option machine.Cause) (known : Option Cause) → is_some closed ≡ true → Knows closed known → closed ≡ Some (cause_view (unwrap_or known Memory))
knows_marked closed None some (inl none) = absurd (false≢true (sym (ap is_some none) ∙ some))
knows_marked closed None some (inr memory) = memory
knows_marked closed (Some cause) some is = is

module _ (c : Course) (known : Option Cause) (items : Items) (put : List Sent) (ended : Bool) where
  -- the end mark was put after them
  pub fits_marked : c.is_open ≡ false → c.waiting ≡ [] → FitsCourse c known items put false ended → FitsCourse c (Some (unwrap_or known Memory)) items (put ++ End ∷ []) true ended
  fits_marked away none f = record {
    took = f.took;
    shut = f.shut;
    puts = (away, none, (c.handed, ap (λ (l : List Sent). l ++ End ∷ []) f.puts.0, ([], append-nil c.handed), λ by. refl, inl refl));
    knows = knows_marked c.closed known (f.opens ∙ ap not away) f.knows;
    ends = f.ends;
    opens = f.opens;
    unfailed = f.unfailed;
    overrun = f.overrun;
  }

-- ---- a ring without room

module _ (c d e g : Course) (known known' : Option Cause) (items : Items) (put put' : List Sent) (ended : Bool) (moved : List (List ℕ)) (last : List ℕ)
    (hands : OwnHanded c d (moved ++ last ∷ [])) (closes : OwnClosed d e machine.Overrun known known') (drops : OwnHanded e g e.waiting) (none : g.waiting ≡ [])
    (is : put' ≡ put ++ framed moved) (many : most_frames ≤ length put') (f : FitsCourse c known items put false ended) where
  -- the frames that were put
  kept : List (List ℕ)
  kept = c.handed ++ moved

  put_is : put' ≡ framed (c.handed ++ moved)
  put_is = is ∙ (ap (λ (l : List Sent). l ++ framed moved) f.puts.0 ∙ sym (framed-append c.handed moved))

  all_is : (c.handed ++ moved) ++ (last ∷ e.waiting) ≡ g.handed
  all_is =
      append_assoc c.handed moved (last ∷ e.waiting)
      ∙ (ap (λ (l : List (List ℕ)). c.handed ++ l) (sym (append_assoc moved (last ∷ []) e.waiting))
      ∙ (sym (append_assoc c.handed (moved ++ last ∷ []) e.waiting)
      ∙ (ap (λ (l : List (List ℕ)). l ++ e.waiting) (sym hands.handed ∙ sym closes.handed) ∙ sym drops.handed)))

  more_than : most_frames < length g.handed
  more_than = omega (arith, many, ap length put_is, length-map (c.handed ++ moved) (λ (bytes : List ℕ). Frame bytes), ap length all_is, length-append (c.handed ++ moved) (last ∷ e.waiting))

  -- its reader had not closed it
  not_by_reader : is_by_reader c.closed ≡ true → ⊥
  not_by_reader by = one_more_is_some moved last d.waiting (sym hands.waiting ∙ f.puts.1 by)

  asks_is : g.asks ≡ c.asks
  asks_is = drops.asks ∙ (closes.asks ∙ hands.asks)

  away_is : g.is_open ≡ false
  away_is = drops.is_open ∙ closes.away

  abbrev Made : Type 0
  Made = FitsCourse g (Some (unwrap_or known' Memory)) items (put' ++ End ∷ []) true ended

  made : Took g.closed g.asks items → IsShut g.closed g.shut g.asks items → (is_by_reader g.closed ≡ true → ⊥) → g.closed ≡ Some (cause_view (unwrap_or known' Memory)) → g.closed ≢ Some machine.WriteFault → Made
  made took shut not_by closed unfailed = record {
    took = took;
    shut = shut;
    puts = (away_is, none, (c.handed ++ moved, ap (λ (l : List Sent). l ++ End ∷ []) put_is, (last ∷ e.waiting, all_is), λ by. absurd (not_by by), inr more_than));
    knows = closed;
    ends = λ _. away_is;
    opens = ap is_some closed ∙ sym (ap not away_is);
    unfailed = unfailed;
    overrun = λ _. omega (arith, more_than);
  }

  by_overrun : d.is_open ≡ true → e.closed ≡ option_or d.closed (Some machine.Overrun) → e.shut ≡ d.shut ++ machine.Overrun ∷ [] → (cause : Cause) → known' ≡ Some cause → cause_view cause ≡ machine.Overrun → Made
  by_overrun was closed shut cause known_is view =
      let open_before : c.is_open ≡ true = sym hands.is_open ∙ was in
      let was_none : c.closed ≡ None = not_closed c f.opens open_before in
      let over : g.closed ≡ Some machine.Overrun = drops.closed ∙ (closed ∙ ap (λ (o : Option machine.Cause). option_or o (Some machine.Overrun)) (hands.closed ∙ was_none)) in
      let took : items ≡ brought c.asks = subst (λ (o : Option machine.Cause). Took o c.asks items) was_none f.took in
      made
      (subst (λ (o : Option machine.Cause). Took o g.asks items) (sym over) ([], took ∙ (ap brought (sym asks_is) ∙ sym (append-nil (brought g.asks))), λ of. absurd (false≢true of)))
      (subst (λ (o : Option machine.Cause). IsShut o g.shut g.asks items) (sym over)
      (inr (inl (drops.shut ∙ (shut ∙ ap (λ (l : List machine.Cause). l ++ machine.Overrun ∷ []) (hands.shut ∙ not_shut c items was_none f.shut))))))
      (λ by. false≢true (sym (ap is_by_reader over) ∙ by))
      (over ∙ ap (λ x. Some x) (sym view ∙ ap (λ (k : Option Cause). cause_view (unwrap_or k Memory)) (sym known_is)))
      (λ failed. let other : Some machine.Overrun ≡ Some machine.WriteFault = sym over ∙ failed in cc)

  by_others : d.is_open ≡ false → e.closed ≡ d.closed → e.shut ≡ d.shut → known' ≡ known → Made
  by_others away closed shut known_is =
      let same : g.closed ≡ c.closed = drops.closed ∙ (closed ∙ hands.closed) in
      let away_before : c.is_open ≡ false = sym hands.is_open ∙ away in
      made
      (took_as c.closed g.closed c.asks g.asks items same asks_is f.took)
      (shut_as c.closed g.closed c.shut g.shut c.asks g.asks items same (drops.shut ∙ (shut ∙ hands.shut)) asks_is f.shut)
      (λ by. not_by_reader (sym (ap is_by_reader same) ∙ by))
      (same ∙ (knows_marked c.closed known (f.opens ∙ ap not away_before) f.knows ∙ ap (λ (k : Option Cause). Some (cause_view (unwrap_or k Memory))) (sym known_is)))
      (λ failed. f.unfailed (sym same ∙ failed))

  pub fits_given_up : Made
  fits_given_up = elim closes.by [
    | inl (was, closed, shut, (cause, known_is, view)) ↦ by_overrun was closed shut cause known_is view
    | inr (away, closed, shut, known_is) ↦ by_others away closed shut known_is
  ]

-- ---- what is taken of a ring

-- what was put does not depend on what was asked, or on why entries closed it
puts_besides : (c : Course) (asks : List Message) (shut : List machine.Cause) (marked : Bool) (put : List Sent) → PutsFrames (record c { asks = asks; shut = shut }) marked put → PutsFrames c marked put
puts_besides c asks shut false put p = p
puts_besides c asks shut true put p = p

module _ (c d : Course) (message : Message) (known : Option Cause) (before : Items) (put : List Sent) (marked ended : Bool) (o : OwnTook c d message) (f : FitsCourse c known before put marked ended) where
  -- all but the messages, and why entries closed it
  abbrev Same : Type 0
  Same = FitsCourse (record d { asks = c.asks; shut = c.shut }) known before put marked ended

  with_taken : Same → Took d.closed d.asks (before ++ Brings message ∷ []) → IsShut d.closed d.shut d.asks (before ++ Brings message ∷ []) → FitsCourse d known (before ++ Brings message ∷ []) put marked ended
  with_taken s took shut = record {
    took = took;
    shut = shut;
    puts = puts_besides d c.asks c.shut marked put s.puts;
    knows = s.knows;
    ends = s.ends;
    opens = s.opens;
    unfailed = s.unfailed;
    overrun = s.overrun;
  }

  same_by : ((d.is_open ≡ c.is_open) × (d.closed ≡ c.closed)) ⊎ ((c.is_open ≡ true) × (d.is_open ≡ false) × (d.closed ≡ option_or c.closed (Some machine.Memory))) → Same
  same_by how = fits_spared c (record d { asks = c.asks; shut = c.shut }) known before put marked ended
      (record { more = o.more; waiting = o.waiting; silent = o.silent; handed = o.handed; asks = refl; shut = refl; closes = how }) f

  taken_open : c.is_open ≡ true → before ≡ brought c.asks
  taken_open was = subst (λ (k : Option machine.Cause). Took k c.asks before) (not_closed c f.opens was) f.took

  taken_unshut : c.is_open ≡ true → c.shut ≡ []
  taken_unshut was = not_shut c before (not_closed c f.opens was) f.shut

  taken_memory : c.is_open ≡ true → d.closed ≡ option_or c.closed (Some machine.Memory) → d.closed ≡ Some machine.Memory
  taken_memory was closed = closed ∙ ap (λ (k : Option machine.Cause). option_or k (Some machine.Memory)) (not_closed c f.opens was)

  pub fits_took : FitsCourse d known (before ++ Brings message ∷ []) put marked ended
  fits_took = elim o.by [
    | inl (was, away, closed, asks, shut) ↦
        with_taken (same_by (inl (away ∙ sym was, closed)))
        (took_as c.closed d.closed c.asks d.asks (before ++ Brings message ∷ []) closed asks (took_after c.closed c.asks before (Brings message) (f.opens ∙ ap not was) f.took))
        (shut_as c.closed d.closed c.shut d.shut c.asks d.asks (before ++ Brings message ∷ []) closed shut asks (shut_after c.closed c.shut c.asks before (Brings message) (f.opens ∙ ap not was) f.shut))
    | inr (inl (was, there, closed, asks, shut)) ↦
        let none : d.closed ≡ None = closed ∙ not_closed c f.opens was in
        with_taken (same_by (inl (there ∙ sym was, closed)))
        (subst (λ (k : Option machine.Cause). Took k d.asks (before ++ Brings message ∷ [])) (sym none)
        (ap (λ (l : Items). l ++ Brings message ∷ []) (taken_open was) ∙ (sym (brought-more c.asks message) ∙ ap brought (sym asks))))
        (subst (λ (k : Option machine.Cause). IsShut k d.shut d.asks (before ++ Brings message ∷ [])) (sym none) (shut ∙ taken_unshut was))
    | inr (inr (was, away, closed, inl (is, shut))) ↦
        with_taken (same_by (inr (was, away, closed)))
        (subst (λ (k : Option machine.Cause). Took k d.asks (before ++ Brings message ∷ [])) (sym (taken_memory was closed)) (
          [],
          ap (λ (l : Items). l ++ Brings message ∷ []) (taken_open was) ∙ (sym (brought-more c.asks message) ∙ (ap brought (sym is) ∙ sym (append-nil (brought d.asks)))),
          λ of. absurd (false≢true of),
        ))
        (subst (λ (k : Option machine.Cause). IsShut k d.shut d.asks (before ++ Brings message ∷ [])) (sym (taken_memory was closed)) (inl (shut ∙ taken_unshut was)))
    | inr (inr (was, away, closed, inr (is, shut))) ↦
        let left : before ++ Brings message ∷ [] ≡ brought d.asks ++ Brings message ∷ [] = ap (λ (l : Items). l ++ Brings message ∷ []) (taken_open was ∙ ap brought (sym is)) in
        with_taken (same_by (inr (was, away, closed)))
        (subst (λ (k : Option machine.Cause). Took k d.asks (before ++ Brings message ∷ [])) (sym (taken_memory was closed)) (Brings message ∷ [], left, λ of. absurd (false≢true of)))
        (subst (λ (k : Option machine.Cause). IsShut k d.shut d.asks (before ++ Brings message ∷ [])) (sym (taken_memory was closed)) (inr (inr (Brings message, [], left))))
  ]

-- no reader ends since it did not take what was sent to it
not_overrun : (cause : ReadCause) → end_cause cause ≡ machine.Overrun → ⊥
not_overrun reads.InputEnded h = cc
not_overrun reads.ReadFault h = cc
not_overrun reads.Damaged h = cc
not_overrun reads.Memory h = cc

not_write_fault : (cause : ReadCause) → end_cause cause ≡ machine.WriteFault → ⊥
not_write_fault reads.InputEnded h = cc
not_write_fault reads.ReadFault h = cc
not_write_fault reads.Damaged h = cc
not_write_fault reads.Memory h = cc

same_cause : (x y : machine.Cause) → Some x ≡ Some y → x ≡ y
same_cause x y h = cc

module _ (c d : Course) (cause : ReadCause) (known known' : Option Cause) (before : Items) (put : List Sent) (marked ended : Bool) (o : OwnClosed c d (end_cause cause) known known') (f : FitsCourse c known before put marked ended) where
  puts_ended : (m : Bool) → IsFlushed c m → c.is_open ≡ true → PutsFrames c m put → PutsFrames d m put
  puts_ended false flushed was p = (p.0 ∙ ap framed (sym o.handed), λ by. elim flushed [ inl is ↦ absurd (false≢true is) | inr (there, none) ↦ o.waiting ∙ none ])
  puts_ended true flushed was p = absurd (false≢true (sym p.0 ∙ was))

  ended_open : IsFlushed c marked → c.is_open ≡ true → d.closed ≡ option_or c.closed (Some (end_cause cause)) → (x : Cause) → known' ≡ Some x → cause_view x ≡ end_cause cause → FitsCourse d known' (before ++ Last cause ∷ []) put marked true
  ended_open flushed was closed x known_is view =
      let none : c.closed ≡ None = not_closed c f.opens was in
      let is : d.closed ≡ Some (end_cause cause) = closed ∙ ap (λ (k : Option machine.Cause). option_or k (Some (end_cause cause))) none in
      let took : before ≡ brought c.asks = subst (λ (k : Option machine.Cause). Took k c.asks before) none f.took in
      record {
        took = subst (λ (k : Option machine.Cause). Took k d.asks (before ++ Last cause ∷ [])) (sym is)
            (Last cause ∷ [], ap (λ (l : Items). l ++ Last cause ∷ []) (took ∙ ap brought (sym o.asks)), λ of. (cause, [], refl, refl));
        shut = subst (λ (k : Option machine.Cause). IsShut k d.shut d.asks (before ++ Last cause ∷ [])) (sym is)
            (inr (inr (Last cause, [], ap (λ (l : Items). l ++ Last cause ∷ []) (took ∙ ap brought (sym o.asks)))));
        puts = puts_ended marked flushed was f.puts;
        knows = subst (λ (k : Option Cause). Knows d.closed k) (sym known_is) (is ∙ ap (λ k. Some k) (sym view));
        ends = λ _. o.away;
        opens = ap is_some is ∙ sym (ap not o.away);
        unfailed = λ failed. not_write_fault cause (same_cause (end_cause cause) machine.WriteFault (sym is ∙ failed));
        overrun = λ over. absurd (not_overrun cause (same_cause (end_cause cause) machine.Overrun (sym is ∙ over)));
      }

  ended_shut : c.is_open ≡ false → d.closed ≡ c.closed → d.shut ≡ c.shut → known' ≡ known → FitsCourse d known' (before ++ Last cause ∷ []) put marked true
  ended_shut was closed shut known_is =
      let s : Spares c d = record { more = []; waiting = o.waiting ∙ sym (append-nil c.waiting); silent = λ _. refl; handed = o.handed; asks = o.asks; shut = shut; closes = inl (o.away ∙ sym was, closed) } in
      let on = fits_spared c d known before put marked ended s f in
      record {
        took = took_after d.closed d.asks before (Last cause) (on.opens ∙ ap not o.away) on.took;
        shut = shut_after d.closed d.shut d.asks before (Last cause) (on.opens ∙ ap not o.away) on.shut;
        puts = on.puts;
        knows = subst (λ (k : Option Cause). Knows d.closed k) (sym known_is) on.knows;
        ends = λ _. o.away;
        opens = on.opens;
        unfailed = on.unfailed;
        overrun = on.overrun;
      }

  pub fits_ended : IsFlushed c marked → FitsCourse d known' (before ++ Last cause ∷ []) put marked true
  fits_ended flushed = elim o.by [
    | inl (was, closed, shut, (x, known_is, view)) ↦ ended_open flushed was closed x known_is view
    | inr (was, closed, shut, known_is) ↦ ended_shut was closed shut known_is
  ]

-- one frame more was put
pub framed-more : (old mid new : List Sent) (moved : List (List ℕ)) (frame : List ℕ) → mid ≡ old ++ framed moved → new ≡ mid ++ Frame frame ∷ [] → new ≡ old ++ framed (moved ++ frame ∷ [])
framed-more old mid new moved frame is more =
    more ∙ (ap (λ (l : List Sent). l ++ Frame frame ∷ []) is ∙ (append_assoc old (framed moved) (Frame frame ∷ []) ∙ ap (λ (l : List Sent). old ++ l) (sym (framed-append moved (frame ∷ [])))))
