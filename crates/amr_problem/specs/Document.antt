-- The table that the bytes of a problem are.
use Rattle.std.specs.Prelude.{ℕ, List, Option, None, unwrap_or, if◌then◌else◌}
use Rattle.std.specs.Str.{is_utf8}
use Rattle.toml.specs.Data.{Members, no_members}
use Rattle.toml.specs.Parse.{parse_document}

-- none where toml refuses the bytes, those that are no UTF-8 among them
unfoldable pub document : List ℕ → Option Members
document bytes = if is_utf8 bytes then parse_document bytes else None

-- its keys and values: none where the bytes are no table
abbrev pub table_of : List ℕ → Members
table_of bytes = unwrap_or (document bytes) no_members
