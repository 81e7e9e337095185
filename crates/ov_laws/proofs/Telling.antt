-- Replies without an error, and the databases that they tell of.
use Rattle.std.proofs.Common.{◌≡◌, ℕ, List, [], ◌∷◌, map, false, codes, Some, None, option_and_then, ap, subst, ◌∙◌}
use Rattle.std.specs.List.{AllByRecursion}
use Rattle.std.proofs.lemmas.Option.{same_Some}
use Rattle.serde_json.specs.Data.{Data, array, Items}
use Rattle.serde_json.specs.Find.{as_array}
use Rattle.serde_json.specs.Find as find
use Rattle.ov_specs.specs.locks.Queues.{locked_notification}
use Rattle.ov_specs.specs.machine.Machine.{Session, Sent, told, to_session, updates_sent}
use Rattle.ov_specs.specs.monitors.Updates.{all_updates, update_notification}
use Rattle.ov_specs.specs.operations.Transaction.{has_error}
use Rattle.ov_specs.specs.rows.Database.{Database}
use Rattle.ov_specs.specs.wire.Frame.{reply_tree, notification_tree}
use Rattle.ov_laws.proofs.Paths.{all-append}

module _ (T : List Database → ℕ → Data → Items → Type 0) where
  -- what is sent, if it is a reply without an error, tells of these databases
  abbrev pub Tells : List Database → Sent → Type 0
  Tells ds x = (id : Data) (results : Items) → x.tree ≡ reply_tree id (array results) → has_error results ≡ false → T ds x.session id results

  -- a notification is no reply
  notification-tells : (ds : List Database) (n : ℕ) (method : List ℕ) (params : Items) → Tells ds (record { session = n; tree = notification_tree method params })
  notification-tells ds n method params id results is fine = absurd (no (ap (λ tree. find.get (codes "result") tree) is))
    where
      no : None ≡ Some (array results) → ⊥
      no e = cc

  pub freed-tell : (ds : List Database) (left : List (ℕ × List ℕ)) → AllByRecursion (Tells ds) (told (map (λ f. (f.0, locked_notification f.1)) left))
  freed-tell ds [] = tt
  freed-tell ds (f ∷ left) = (notification-tells ds f.0 (codes "locked") _, freed-tell ds left)

  pub updates-tell : (ds : List Database) (before after : Database) (sessions : List Session) → AllByRecursion (Tells ds) (updates_sent before after sessions)
  updates-tell ds before after [] = tt
  updates-tell ds before after (n ∷ sessions) = all-append (Tells ds) (to_session n.serial (map update_notification its)) (updates_sent before after sessions) (each its) (updates-tell ds before after sessions)
    where
      its : List Items
      its = all_updates before after n.monitors

      each : (params : List Items) → AllByRecursion (Tells ds) (to_session n.serial (map update_notification params))
      each [] = tt
      each (p ∷ params) = (notification-tells ds n.serial (codes "update") p, each params)

  -- a reply has one id and one array of results
  pub reply-tells : (ds : List Database) (n : ℕ) (i : Data) (sent : Items) → (has_error sent ≡ false → T ds n i sent) → Tells ds (record { session = n; tree = reply_tree i (array sent) })
  reply-tells ds n i sent replies id results is fine =
      let same_id : i ≡ id = same_Some i id (ap (λ tree. find.get (codes "id") tree) is) in
      let same : sent ≡ results = same_Some sent results (ap (λ tree. option_and_then as_array (find.get (codes "result") tree)) is) in
      subst (λ v. T ds n v results) same_id (subst (λ v. T ds n i v) same (replies (ap has_error same ∙ fine)))
