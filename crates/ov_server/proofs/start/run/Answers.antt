use Rattle.std.proofs.Common.{Option, None, Some, IfNone, subst}
use Rattle.std.specs.Prelude.{IfSome, MatchOption}
use Rattle.ov_listen.specs.declared.endpoint.Endpoint.{Endpoint}
use Rattle.ov_server.specs.Running.{IsServiceAsked}
use Rattle.ov_server.proofs.start.run.Goals as goal

-- what holds where there is no path, and where there is one
by_path : {A : Type 0} (M : Type 0) (F : A → Type 0) (path : Option A) → IfNone path M → IfSome path F → MatchOption path M F
by_path M F None m f = m
by_path M F (Some x) m f = f

pub returns-in-Ok-service_of-clause-served : goal.returns-in-Ok-service_of-clause-served
returns-in-Ok-service_of-clause-served g c =
    let settings = c.in-Ok.settings in
    let service = c.in-Ok-service_of.service in
    record {
      settings = settings;
      given = c.in-Ok.ensures.taken;
      service = service;
      asked = subst (λ (endpoint : Endpoint). IsServiceAsked settings.schema endpoint service) c.endpoint_of-endpoint.ensures c.in-Ok-service_of.ensures.asked;
      ends = by_path _ _ settings.db c.serve_database.ensures.memory c.serve_database.ensures.file;
    }
