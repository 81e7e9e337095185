use Rattle.std.proofs.Common.{◌≡◌, [], refl, sym, ap, ◌∙◌}
use Rattle.std.proofs.lemmas.Bool.{false≢true}
use Rattle.std.proofs.lemmas.Option.{same_Some}
use Rattle.ov_specs.specs.machine.Machine.{State, Stepped, is_open, opening}
use Rattle.ov_specs.specs.machine.Streams.{no_streams, fed_state}
use Rattle.ov_streams.proofs.streams.Streams.new.Goals as goal

pub returns-clause-none : goal.returns-clause-none
returns-clause-none g c schema database follows =
    let first : Stepped = record { state = opening schema database; sent = [] } in
    let last : Stepped = record { state = c.args.core.state; sent = follows.sent } in
    let same : opening schema database ≡ c.args.core.state = ap (λ (t : Stepped). t.state) (same_Some first last follows.legal) in
    record {
      fed = no_streams;
      follows = follows;
      expands = (refl, ap (λ (s : State). fed_state s no_streams) (sym same));
      cutters = λ n there. absurd (false≢true (ap (λ (s : State). is_open s n) same ∙ there));
    }
