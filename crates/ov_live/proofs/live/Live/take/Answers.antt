use Rattle.std.proofs.Common.{◌≡◌, ◌∙◌, ◌++◌, List, length, true, false, sym, ap, rules, arith}
use Rattle.ov_specs.specs.machine.Machine.{is_kept}
use Rattle.ov_history.specs.Entries.{listed_by, listed_of}
use Rattle.ov_requests.specs.Waiting.{WaitingList}
use Rattle.ov_history.specs.declared.event.Attempt.{Attempt}
use Rattle.ov_live.proofs.Settlings.{listed_few}
use Rattle.ov_live.proofs.Takings.{take_closes, take_ends, take_settles, kept_waits}
use Rattle.ov_live.proofs.live.Live.take.Goals as goal

pub returns-then-is_closing-clause-comes_to : goal.returns-then-is_closing-clause-comes_to
returns-then-is_closing-clause-comes_to g c = λ message stands.
    let h = c.handle-draws in
    let listed : c.list_attempt.new.attempts.items ≡ listed_by 1 h.result.outcome = c.list_attempt.ensures.items ∙ ap (λ (list : List Attempt). list ++ listed_by 1 h.result.outcome) c.requires.none in
    take_closes g.K.Keeper.failed c.args.moment c.args.session message h.result.draws.items c.args.self.now h.new.self c.requires.open c.requires.untried h.result.outcome c.close.new.self c.list_attempt.new.attempts.items
    (sym c.is_closing.ensures ∙ c.if-is_closing.true) listed c.close.ensures (h.ensures.works message stands) h.ensures.asks h.ensures.counts (h.ensures.tries message stands)

pub returns-then-not-is_kept-clause-comes_to : goal.returns-then-not-is_kept-clause-comes_to
returns-then-not-is_kept-clause-comes_to g c = λ message stands.
    let h = c.handle-draws in
    let listed : c.list_attempt.new.attempts.items ≡ listed_by 1 h.result.outcome = c.list_attempt.ensures.items ∙ ap (λ (list : List Attempt). list ++ listed_by 1 h.result.outcome) c.requires.none in
    let same : is_kept (listed_of h.result.outcome) ≡ false = search rules in
    take_ends g.K.Keeper.failed c.args.moment c.args.session message h.result.draws.items c.args.self.now h.new.self c.requires.open c.requires.untried h.result.outcome c.list_attempt.new.attempts.items
    (sym c.is_closing.ensures ∙ c.if-is_closing.false) same listed (h.ensures.works message stands) h.ensures.asks h.ensures.counts (h.ensures.tries message stands)

pub returns-clause-comes_to : goal.returns-clause-comes_to
returns-clause-comes_to g c = λ message stands.
    let h = c.handle-draws in
    let listed : c.list_attempt.new.attempts.items ≡ listed_by 1 h.result.outcome = c.list_attempt.ensures.items ∙ ap (λ (list : List Attempt). list ++ listed_by 1 h.result.outcome) c.requires.none in
    let kept : is_kept (listed_of h.result.outcome) ≡ true = search rules in
    take_settles g.K.Keeper.failed c.args.moment c.args.session message h.result.draws.items c.args.self.now h.new.self c.requires.open c.requires.untried h.result.outcome c.settle.new.self c.list_attempt.new.attempts.items c.settle.new.attempts.items
    (sym c.is_closing.ensures ∙ c.if-is_closing.false) kept listed (h.ensures.works message stands) h.ensures.asks h.ensures.counts (h.ensures.tries message stands) c.settle.ensures.settles

pub settle-requires : goal.settle-requires
settle-requires g c =
    let h = c.handle-draws in
    let kept : is_kept (listed_of h.result.outcome) ≡ true = search rules in
    let (message, stands, room) = c.requires.waits in
    let (untried, waits) = kept_waits c.args.moment c.args.session _ h.result.draws.items c.args.self.now h.result.outcome h.new.self kept (h.ensures.works message stands) in
    record {
      untried = untried ∙ c.requires.untried;
      room = omega (arith, ap (λ (w : WaitingList). length w.outstanding) waits, c.list_attempt.ensures.len, c.list_attempt.ensures.capacity, c.requires.room, listed_few 1 h.result.outcome, ap (λ (list : List Attempt). length list) c.requires.none);
      first = omega arith;
    }
