use Rattle.std.proofs.Common.{List, ◌∙◌, sym, ap, Option, ℕ}
use Rattle.std.specs.List.{filter_map}
use Rattle.ov_specs.specs.machine.Machine.{Outstanding, least, timeout_of}
use Rattle.ov_requests.specs.Waiting.{earlier}
use Rattle.ov_requests.proofs.Earliest.{earliest-append}
use Rattle.ov_requests.proofs.waiting.Waiting.due.Goals as goal

pub returns : goal.returns
returns c =
    let older = c.as_slices.result.0.now in
    let newer = c.as_slices.result.1.now in
    rw (← c.self.view_is) (c.due_among.ensures ∙ (ap (λ (o : Option ℕ). earlier o (least (filter_map timeout_of newer))) c.due_among-due.ensures
    ∙ (sym (earliest-append older newer) ∙ ap (λ (os : List Outstanding). least (filter_map timeout_of os)) c.as_slices.ensures.items)))
