use denote.Param.Send.{sendable}
use Rattle.ov_lobby.proofs.lobby.in_scope.Goals as goal

pub scoped-served-requires : goal.scoped-served-requires
scoped-served-requires g c = record {
  at = λ a. (
    c.requires.free,
    (
      c.requires.seats,
      (
        c.requires.bells,
        (
          c.requires.parts,
          (
            c.requires.ring,
            (
              (let bound = c.type_bounds.send-L in search sendable depth 10),
              (let bound = c.type_bounds.send-S in search sendable depth 10),
              (let bound = c.type_bounds.send-W in search sendable depth 10),
              (let bound = c.type_bounds.send-T in search sendable depth 10),
              (let bound = c.type_bounds.sync-R in search sendable depth 10),
              (let bound = c.type_bounds.sync-L in search sendable depth 10),
              (let bound = c.type_bounds.sync-G in search sendable depth 10),
            ),
          ),
        ),
      ),
    ),
  );
}
