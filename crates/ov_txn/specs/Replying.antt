-- The replies that are made ready before the store is asked.
use Rattle.serde_json.specs.Data.{Items}
use Rattle.ov_specs.specs.operations.Errors.{ResourcesExhausted, InputOutput, error_tree}
use Rattle.ov_txn.specs.declared.ready.Replies.{Replies}

-- the replies with these results, and the error that follows them if the store does not keep the changes
abbrev pub replies_with : Items → Replies
replies_with results = record { kept = results; exhausted = error_tree ResourcesExhausted; failed = error_tree InputOutput }
