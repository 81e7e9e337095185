-- How the results of a transaction grow, operation by operation.
use Rattle.serde_json.specs.Data.{null, Items, no_items, item}
use Rattle.ov_specs.specs.operations.Transaction.{TransactionOutcome, Completes, Waits, and_item}

-- the results, followed by a null for each of these operations
abbrev pub nulls_after : Items → Items → Items
nulls_after results no_items = results
nulls_after results (item d operations) = nulls_after (and_item results null) operations

-- these items, followed by the others
abbrev pub items_append : Items → Items → Items
items_append no_items others = others
items_append (item d items) others = item d (items_append items others)

-- these results, followed by what comes after
abbrev pub prefixed : Items → TransactionOutcome → TransactionOutcome
prefixed results (Completes others database) = Completes (items_append results others) database
prefixed results (Waits timeout) = Waits timeout
