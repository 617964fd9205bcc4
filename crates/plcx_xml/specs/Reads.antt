-- Tokens that bytes begin with. Offsets are told by the length of the whole, `last`, and of what is left.
use Rattle.std.specs.Prelude.{ℕ, zero, suc, Bool, List, [], ◌∷◌, ◌++◌, ◌-◌, length, nat_eq, None, Some, if◌then◌else◌, codes}
use Rattle.std.specs.declared.option.Option.{Option}
use Rattle.std.specs.Option.{option_map}
use Rattle.plcx_types.specs.declared.span.Span.{Span}
use Rattle.std.specs.List.{flat_map}
use Rattle.std.specs.Char.{encode_utf8}
use Rattle.plcx_xml.specs.Character.{is_plain}
use Rattle.plcx_xml.specs.Reading.{Parts, ◌>>=◌, starts, run_at, behind_space, parts_at, end_at, begin_at, text_at, close_at, reference_at, enclosed_at}
use Rattle.plcx_xml.specs.declared.tree.Attribute.{Attribute}
use Rattle.plcx_xml.specs.declared.token.Token.{Token}
use Rattle.plcx_xml.specs.declared.token.Kind.{Kind}
use Rattle.plcx_xml.specs.declared.token.Kind.TheVariants as kind

-- from where these bytes begin to where the rest does
abbrev pub span_between : ℕ → List ℕ → List ℕ → Span
span_between last own rest = record { start = last - length own; end = last - length rest }

abbrev pub many_then : {A : Type 0} → Option (A × List ℕ) → List ℕ → (List ℕ → List A × List ℕ) → List A × List ℕ
many_then None bytes more = ([], bytes)
many_then (Some found) bytes more = (found.0 ∷ (more found.1).0, (more found.1).1)

-- what is read over and over, at most so often
abbrev pub many : {A : Type 0} → (List ℕ → Option (A × List ℕ)) → ℕ → List ℕ → List A × List ℕ
many read zero bytes = ([], bytes)
many read (suc n) bytes = many_then (read bytes) bytes (many read n)

-- a run without `&`, or the bytes of a reference's character
abbrev pub piece_at : List ℕ → Option (List ℕ × List ℕ)
piece_at bytes =
    if starts is_plain bytes then Some (run_at is_plain bytes) else option_map (λ p. (encode_utf8 p.0, p.1)) (reference_at bytes)

-- all pieces, if nothing is left
abbrev pub joined_pieces : List (List ℕ) × List ℕ → Option (List ℕ)
joined_pieces found = if nat_eq (length found.1) 0 then Some (flat_map (λ (p : List ℕ). p) found.0) else None

-- the value that is written so
abbrev pub value_of : List ℕ → Option (List ℕ)
value_of written = joined_pieces (many piece_at (length written) written)

abbrev pub attribute_of : ℕ → Parts → List ℕ → Attribute × List ℕ
attribute_of last p value = (record { name = p.name; value = value; span = span_between last p.own p.rest }, p.rest)

abbrev pub attribute_at : ℕ → List ℕ → Option (Attribute × List ℕ)
attribute_at last bytes = parts_at bytes >>= λ p. option_map (attribute_of last p) (value_of p.written)

abbrev pub after_front : {A : Type 0} → List A → List A × List ℕ → List A × List ℕ
after_front front found = (front ++ found.0, found.1)

abbrev pub attributes_at : ℕ → List ℕ → List Attribute × List ℕ
attributes_at last bytes = many (attribute_at last) (length bytes) bytes

abbrev pub token_of : Kind → ℕ → List ℕ → List ℕ → Token × List ℕ
token_of k last own rest = (record { kind = k; span = span_between last own rest }, rest)

abbrev pub end_token : ℕ → List ℕ → Option (Token × List ℕ)
end_token last bytes = option_map (λ p. token_of (kind.End p.0) last bytes p.1) (end_at bytes)

abbrev pub text_token : ℕ → List ℕ → Option (Token × List ℕ)
text_token last bytes = option_map (λ p. token_of (kind.Text p.0) last bytes p.1) (text_at bytes)

abbrev pub tag_kind : Bool → List ℕ → List Attribute → Kind
tag_kind is_empty name attributes = if is_empty then kind.Empty name attributes else kind.Start name attributes

abbrev pub tag_behind : ℕ → List ℕ → List ℕ → List Attribute × List ℕ → Option (Token × List ℕ)
tag_behind last bytes name found = option_map (λ e. token_of (tag_kind e.0 name found.0) last bytes e.1) (close_at (behind_space found.1))

abbrev pub tag_token : ℕ → List ℕ → Option (Token × List ℕ)
tag_token last bytes = begin_at bytes >>= λ p. tag_behind last bytes p.0 (attributes_at last p.1)

abbrev pub reference_token : ℕ → List ℕ → Option (Token × List ℕ)
reference_token last bytes = option_map (λ p. token_of (kind.Reference (encode_utf8 p.0)) last bytes p.1) (reference_at bytes)

abbrev pub comment_token : ℕ → List ℕ → Option (Token × List ℕ)
comment_token last bytes = option_map (λ p. token_of kind.Comment last bytes p.1) (enclosed_at (codes "<!--") (codes "-->") bytes)

abbrev pub instruction_token : ℕ → List ℕ → Option (Token × List ℕ)
instruction_token last bytes = option_map (λ p. token_of kind.Instruction last bytes p.1) (enclosed_at (codes "<?") (codes "?>") bytes)

abbrev pub cdata_token : ℕ → List ℕ → Option (Token × List ℕ)
cdata_token last bytes = option_map (λ p. token_of (kind.Cdata p.0) last bytes p.1) (enclosed_at (codes "<![CDATA[") (codes "]]>") bytes)

abbrev pub or_else : {A : Type 0} → Option A → Option A → Option A
or_else None b = b
or_else (Some a) b = Some a

-- a token that begins with `&` or `<`, but is no tag
abbrev pub other_token : ℕ → List ℕ → Option (Token × List ℕ)
other_token last bytes =
    or_else (reference_token last bytes) (or_else (comment_token last bytes) (or_else (instruction_token last bytes) (cdata_token last bytes)))

abbrev pub token_at : ℕ → List ℕ → Option (Token × List ℕ)
token_at last bytes = or_else (end_token last bytes) (or_else (tag_token last bytes) (or_else (text_token last bytes) (other_token last bytes)))
