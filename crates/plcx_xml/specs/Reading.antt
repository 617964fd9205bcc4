-- Reading from the front: what stands there, and the bytes behind it.
use Rattle.std.specs.Prelude.{ℕ, Bool, true, false, List, length, take, drop, slice_index, nat_eq, nat_lt, ◌&&◌, None, Some, if◌then◌else◌}
use Rattle.std.specs.declared.option.Option.{Option}
use Rattle.std.specs.List.{prefix_len}
use Rattle.plcx_xml.specs.Character.{is_space, is_first, is_next, is_text, is_value, is_named}
use Rattle.plcx_xml.specs.Grammar.{begins_with, until}
use Rattle.plcx_xml.specs.Reference.{character_named}

infixl 10 ◌>>=◌
abbrev pub ◌>>=◌ : {A B : Type 0} → Option A → (A → Option B) → Option B
None >>= f = None
(Some x) >>= f = f x

abbrev pub starts : (ℕ → Bool) → List ℕ → Bool
starts p bytes = nat_lt 0 (length bytes) && p (slice_index bytes 0)

abbrev pub byte_at : ℕ → List ℕ → Option (List ℕ)
byte_at b bytes = if starts (λ x. nat_eq x b) bytes then Some (drop 1 bytes) else None

abbrev pub behind_space : List ℕ → List ℕ
behind_space bytes = drop (prefix_len is_space bytes) bytes

-- the longest run of such bytes
abbrev pub run_at : (ℕ → Bool) → List ℕ → List ℕ × List ℕ
run_at p bytes = (take (prefix_len p bytes) bytes, drop (prefix_len p bytes) bytes)

abbrev pub name_at : List ℕ → Option (List ℕ × List ℕ)
name_at bytes = if starts is_first bytes then Some (run_at is_next bytes) else None

abbrev pub text_at : List ℕ → Option (List ℕ × List ℕ)
text_at bytes = if starts is_text bytes then Some (run_at is_text bytes) else None

-- what stands between two of that quote
unfoldable pub quoted_by : ℕ → List ℕ → Option (List ℕ × List ℕ)
quoted_by quote bytes = do
  inside ← byte_at quote bytes
  rest ← byte_at quote (run_at (is_value quote) inside).1
  Some ((run_at (is_value quote) inside).0, rest)

abbrev pub quoted_at : List ℕ → Option (List ℕ × List ℕ)
quoted_at bytes = if starts (λ x. nat_eq x 34) bytes then quoted_by 34 bytes else quoted_by 39 bytes

-- the value behind `=`
unfoldable pub value_at : List ℕ → Option (List ℕ × List ℕ)
value_at bytes = do
  right ← byte_at 61 (behind_space bytes)
  quoted_at (behind_space right)

-- an attribute's parts, what its value is written as, the bytes from its name on, and those behind it
pub record Parts : Type 0 where
  pub name : List ℕ
  pub written : List ℕ
  pub own : List ℕ
  pub rest : List ℕ

unfoldable pub named_at : List ℕ → Option Parts
named_at own = do
  name ← name_at own
  value ← value_at name.1
  Some (record { name = name.0; written = value.0; own = own; rest = value.1 })

abbrev pub parts_at : List ℕ → Option Parts
parts_at bytes = if starts is_space bytes then named_at (behind_space bytes) else None

-- whether a tag is empty
abbrev pub close_at : List ℕ → Option (Bool × List ℕ)
close_at bytes =
    if starts (λ x. nat_eq x 62) bytes then Some (false, drop 1 bytes)
    else (if nat_lt 1 (length bytes) && nat_eq (slice_index bytes 0) 47 && nat_eq (slice_index bytes 1) 62 then Some (true, drop 2 bytes) else None)

-- the name of a start tag
unfoldable pub begin_at : List ℕ → Option (List ℕ × List ℕ)
begin_at bytes = do
  inside ← byte_at 60 bytes
  name_at inside

unfoldable pub end_name_at : List ℕ → Option (List ℕ × List ℕ)
end_name_at bytes = do
  name ← name_at bytes
  rest ← byte_at 62 (behind_space name.1)
  Some (name.0, rest)

-- the name of an end tag
unfoldable pub end_at : List ℕ → Option (List ℕ × List ℕ)
end_at bytes = do
  inside ← byte_at 60 bytes
  name ← byte_at 47 inside
  end_name_at name

-- the character that a reference stands for
unfoldable pub reference_at : List ℕ → Option (ℕ × List ℕ)
reference_at bytes = do
  inside ← byte_at 38 bytes
  rest ← byte_at 59 (run_at is_named inside).1
  c ← character_named (run_at is_named inside).0
  Some (c, rest)

-- what follows these bytes
abbrev pub behind : List ℕ → List ℕ → Option (List ℕ)
behind front bytes = if begins_with front bytes then Some (drop (length front) bytes) else None

-- what stands between these two
abbrev pub enclosed_at : List ℕ → List ℕ → List ℕ → Option (List ℕ × List ℕ)
enclosed_at open_ close bytes = behind open_ bytes >>= until close
