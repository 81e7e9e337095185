-- The identifiers of the rows that a transaction inserts. One is drawn for each insert, and an insert may choose another (RFC
-- 7047, 5.2.1; ovsdb-server(7), 5.2.1).
use Rattle.std.specs.Prelude.{List, map, filter, zip, Option, unwrap_or, option_and_then, codes}
use Rattle.std.specs.Option.{option_or}
use Rattle.serde_json.specs.Data.{Data, Items}
use Rattle.serde_json.specs.Find as find
use Rattle.serde_json.specs.Find.{as_str}
use Rattle.uuid.specs.Text.{parsed_hyphenated}
use Rattle.ov_specs.specs.operations.Draws.{is_insert}
use Rattle.ov_specs.specs.values.Reading.{uuid_read}
use Rattle.ov_specs.specs.values.Uuid.{Uuid, no_names}
use Rattle.ov_specs.specs.wire.Tree.{item_list}

-- the identifier that a text or ["uuid",text] stands for (RFC 7047, 5.1, <uuid>; the text alone is this server's extension)
abbrev pub id_read : Data → Option Uuid
id_read d = option_or (option_and_then parsed_hyphenated (as_str d)) (uuid_read no_names d)

-- the identifier that an insert chooses, if its "uuid" reads
abbrev pub chosen_id : Data → Option Uuid
chosen_id d = option_and_then id_read (find.get (codes "uuid") d)

-- The identifiers of the inserts, in order, of which each has a draw: that which an insert chooses, or else its draw. A draw is
-- not used if its insert chooses another.
abbrev pub inserted_ids : List Uuid → Items → List Uuid
inserted_ids draws operations =
    map (λ p. unwrap_or (chosen_id p.0) p.1) (zip (filter is_insert (item_list operations)) draws)
