use Rattle.std.proofs.Common.{◌∙◌, ap, refl}
use Rattle.std.proofs.lemmas.List.{map-append}
use Rattle.ov_specs.specs.rows.Cells.{rewritten}
use Rattle.ov_keeper.specs.Keeping.{changed}
use Rattle.ov_keeper.specs.Views.{change_view, changes_view}
use Rattle.ov_keeper.proofs.LineLemmas.{rewritten-append}
use Rattle.ov_keeper.proofs.list.ListKeeperKeeper.commit.Goals as goal

pub returns-in-Ok-append-clause-ok : goal.returns-in-Ok-append-clause-ok
returns-in-Ok-append-clause-ok c held is =
    let schema = c.args.self.now.schema in
    let made = c.args.self.now.made.items in
    let before = rewritten schema (changes_view made) in (
      before,
      refl,
      is ∙ ap (λ all. rewritten schema (changes_view all)) c.in-Ok-append.ensures.items
          ∙ ap (rewritten schema) (map-append change_view made c.in-Ok.more.items)
          ∙ rewritten-append schema (changes_view made) (changes_view c.in-Ok.more.items)
          ∙ ap (λ changes. changed changes before) c.in-Ok.ensures,
    )
