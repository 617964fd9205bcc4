-- What may follow behind the names that are open.
use Rattle.std.specs.Prelude.{ℕ, Bool, true, false, not, ◌||◌, List, [], ◌∷◌, length, nat_lt, None, Some, if◌then◌else◌}
use Rattle.std.specs.declared.option.Option.{Option}
use Rattle.std.specs.List.{list_all}
use Rattle.std.specs.Str.{bytes_eq}
use Rattle.plcx_types.specs.Limits.{max_element_depth}
use Rattle.plcx_xml.specs.Character.{is_space}
use Rattle.plcx_xml.specs.Reading.{◌>>=◌}
use Rattle.plcx_xml.specs.declared.token.Kind.{Kind}
use Rattle.plcx_xml.specs.declared.token.Kind.TheVariants as kind
use Rattle.plcx_xml.specs.declared.token.Token.{Token}

-- the names that are open, the innermost first, and whether the root has ended
pub record Place : Type 0 where
  pub names : List (List ℕ)
  pub closed : Bool

abbrev pub outset : Place
outset = record { names = []; closed = false }

abbrev pub is_nil : List (List ℕ) → Bool
is_nil [] = true
is_nil (name ∷ names) = false

-- once an element with these names around it has ended
abbrev pub settled : List (List ℕ) → Place
settled names = record { names = names; closed = is_nil names }

-- an element begins anywhere but behind the root, and where so many open names are allowed
abbrev pub begin_step : (ℕ → Bool) → Place → Place → Option Place
begin_step allows p next = if p.closed || not (allows (length p.names)) then None else Some next

-- an end tag ends the last open name, and no other
abbrev pub end_step : List (List ℕ) → List ℕ → Option Place
end_step [] name = None
end_step (m ∷ ms) name = if bytes_eq m name then Some (settled ms) else None

-- where no name is open only blank text tokens stand
abbrev pub text_step : Place → List (List ℕ) → Bool → Option Place
text_step p [] is_blank = if is_blank then Some p else None
text_step p (m ∷ ms) is_blank = Some p

-- the place behind a token, if it may stand there
abbrev pub step : (ℕ → Bool) → Place → Kind → Option Place
step allows p (kind.Start name attributes) = begin_step allows p (record { names = name ∷ p.names; closed = false })
step allows p (kind.Empty name attributes) = begin_step allows p (settled p.names)
step allows p (kind.End name) = end_step p.names name
step allows p (kind.Text value) = text_step p p.names (list_all is_space value)
step allows p (kind.Reference value) = text_step p p.names false
step allows p (kind.Cdata value) = text_step p p.names false
step allows p kind.Comment = Some p
step allows p kind.Instruction = Some p

abbrev pub run : (ℕ → Bool) → List Token → Place → Option Place
run allows [] p = Some p
run allows (t ∷ ts) p = step allows p t.kind >>= run allows ts

-- nesting alone
abbrev pub any_depth : ℕ → Bool
any_depth n = true

-- so many elements may lie in one another
abbrev pub below_limit : ℕ → Bool
below_limit n = nat_lt n max_element_depth
