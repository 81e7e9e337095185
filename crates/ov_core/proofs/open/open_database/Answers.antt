use Rattle.std.proofs.Common.{rules, ◌≡◌, ◌≢◌, None, refl, subst, sym}
use Rattle.std.proofs.lemmas.Result.{IfOk-weaker, IfErr-weaker}
use Rattle.ov_specs.specs.schema.SchemaTypes.{Schema}
use Rattle.ov_stored.specs.declared.fault.OpenFault.TheVariants.{SchemaDiffers}
use Rattle.ov_core.specs.Opening.{FindsAnother, OpensDatabase, RefusesCore}
use Rattle.ov_core.proofs.Opening.{finds_another, looked_at, opens_before, refuses_before}
use Rattle.ov_core.proofs.open.open_database.Goals as goal

pub returns-in-Ok-clause-opened : goal.returns-in-Ok-clause-opened
returns-in-Ok-clause-opened g c = let it = c.in-Ok.ensures in record {
  version = None;
  drawn = refl;
  another = λ now some. absurd (some refl);
  held = it.held;
  left = it.left;
  honest = it.honest;
}

pub returns-then-ne-clause-refused : goal.returns-then-ne-clause-refused
returns-then-ne-clause-refused g c =
    let it = c.in-Err.ensures in
    let other : c.in-Err.refused.fault ≢ SchemaDiffers = search rules in
    record {
      schema_is = it.schema;
      version = None;
      after = c.args.draws;
      drawn = refl;
      another = λ now some. absurd (some refl);
      kinds = it.kinds;
      read_kinds = λ none. it.read_kinds;
      plain = λ none. other;
      fault = it.fault;
      cause = it.cause;
      counts = it.counts;
      left = it.left_refused;
      format = it.format_refused;
      honest = it.honest_refused;
    }

pub convert_database-requires : goal.convert_database-requires
convert_database-requires g c =
    let it = c.in-Err.ensures in
    let refused = c.in-Err.refused in
    let differs : refused.fault ≡ SchemaDiffers = search rules in
    let looks = looked_at g.K.Keeper c.args.schema c.args.keeper refused differs it.left_refused it.one (g.met.K.Keeper.leaves_some refused.keeper) it.fault it.honest_refused it.counts it.format_refused in
    record { another = λ now. subst (FindsAnother (g.K.Keeper.leaves refused.keeper)) (sym it.schema) (finds_another g.K.Keeper c.args.schema c.args.keeper refused.keeper looks now) }

pub returns-clause-opened : goal.returns-clause-opened
returns-clause-opened g c =
    let it = c.in-Err.ensures in
    let refused = c.in-Err.refused in
    let differs : refused.fault ≡ SchemaDiffers = search rules in
    let looks = looked_at g.K.Keeper c.args.schema c.args.keeper refused differs it.left_refused it.one (g.met.K.Keeper.leaves_some refused.keeper) it.fault it.honest_refused it.counts it.format_refused in
    IfOk-weaker c.convert_database.result _ _ (λ made opens. opens_before g.K.Keeper g.D.Draws.draws c.args.schema c.args.draws c.args.keeper refused.keeper looks made.0 made.1
    (subst (λ (schema : Schema). OpensDatabase g.K.Keeper g.D.Draws.draws refused.keeper schema c.args.draws made.0 made.1) it.schema opens)) c.convert_database.ensures.opened

pub returns-clause-refused : goal.returns-clause-refused
returns-clause-refused g c =
    let it = c.in-Err.ensures in
    let refused = c.in-Err.refused in
    let differs : refused.fault ≡ SchemaDiffers = search rules in
    let looks = looked_at g.K.Keeper c.args.schema c.args.keeper refused differs it.left_refused it.one (g.met.K.Keeper.leaves_some refused.keeper) it.fault it.honest_refused it.counts it.format_refused in
    IfErr-weaker c.convert_database.result _ _ (λ again refuses. refuses_before g.K.Keeper g.D.Draws.draws c.args.schema c.args.draws c.args.keeper refused.keeper looks again
    (subst (λ (schema : Schema). RefusesCore g.K.Keeper g.D.Draws.draws refused.keeper schema c.args.draws again) it.schema refuses)) c.convert_database.ensures.refused
