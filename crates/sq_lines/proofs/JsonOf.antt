-- When a line is a JSON value.
use Rattle.std.proofs.Common.{◌≡◌, ℕ, List, Bool, true, false, Some, None, refl, sym}
use Rattle.std.specs.Prelude.{if◌then◌else◌}
use Rattle.std.specs.Str.{IsUtf8, is_utf8}
use Rattle.std.proofs.lemmas.Str.{is_utf8-from_IsUtf8, IsUtf8-from_is_utf8}
use Rattle.serde_json.specs.Data.{Data}
use Rattle.serde_json.specs.Read.{read}
use Rattle.sq_lines.specs.Lines.{json_of}

pub json_found : (line : List ℕ) (d : Data) → IsUtf8 line → read line ≡ Some d → Some d ≡ json_of line
unfolding json_of
json_found line d utf8 reads = rw (is_utf8-from_IsUtf8 line utf8) (sym reads)

missing_at : (line : List ℕ) (b : Bool) → is_utf8 line ≡ b → (IsUtf8 line → read line ≡ None) → None ≡ (if b then read line else None)
missing_at line true is none = sym (none (IsUtf8-from_is_utf8 line is))
missing_at line false is none = refl

pub json_missing : (line : List ℕ) → (IsUtf8 line → read line ≡ None) → None ≡ json_of line
unfolding json_of
json_missing line none = missing_at line (is_utf8 line) refl none
