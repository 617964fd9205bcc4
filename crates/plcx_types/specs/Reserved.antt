-- Which names no diagram and no text may give to what it declares.
use Rattle.std.specs.Prelude.{ℕ, Bool, List, [], ◌∷◌, ◌||◌, ◌&&◌, not, codes, take, map}
use Rattle.std.specs.List.{list_any}
use Rattle.std.specs.Str.{str_eq_ignore_ascii_case}
use Rattle.plcx_types.specs.Conversion.{conversion_name}
use Rattle.plcx_types.specs.TypeName.{all_types, same_ty, type_name}

-- the words of the text's grammar, also those that no statement has yet
abbrev pub keywords : List (List ℕ)
keywords = codes "PROGRAM" ∷ codes "END_PROGRAM" ∷ codes "FUNCTION_BLOCK" ∷ codes "END_FUNCTION_BLOCK" ∷ codes "FUNCTION" ∷ codes "END_FUNCTION"
    ∷ codes "VAR" ∷ codes "VAR_INPUT" ∷ codes "VAR_OUTPUT" ∷ codes "VAR_IN_OUT" ∷ codes "VAR_TEMP" ∷ codes "VAR_EXTERNAL" ∷ codes "VAR_GLOBAL" ∷ codes "END_VAR"
    ∷ codes "CONSTANT" ∷ codes "RETAIN" ∷ codes "AT" ∷ codes "IF" ∷ codes "THEN" ∷ codes "ELSE" ∷ codes "ELSIF" ∷ codes "END_IF"
    ∷ codes "WHILE" ∷ codes "DO" ∷ codes "END_WHILE" ∷ codes "CASE" ∷ codes "OF" ∷ codes "END_CASE" ∷ codes "FOR" ∷ codes "TO" ∷ codes "BY" ∷ codes "END_FOR"
    ∷ codes "REPEAT" ∷ codes "UNTIL" ∷ codes "END_REPEAT" ∷ codes "EXIT" ∷ codes "RETURN"
    ∷ codes "AND" ∷ codes "OR" ∷ codes "XOR" ∷ codes "NOT" ∷ codes "MOD" ∷ codes "TRUE" ∷ codes "FALSE" ∷ []

-- the names of the standard functions, but for the conversions and those that are keywords
abbrev pub functions : List (List ℕ)
functions = codes "ADD" ∷ codes "MUL" ∷ codes "SUB" ∷ codes "DIV" ∷ codes "ABS" ∷ codes "MOVE" ∷ codes "SHL" ∷ codes "SHR" ∷ codes "ROL" ∷ codes "ROR"
    ∷ codes "SEL" ∷ codes "MAX" ∷ codes "MIN" ∷ codes "LIMIT" ∷ codes "MUX" ∷ codes "GT" ∷ codes "GE" ∷ codes "EQ" ∷ codes "LE" ∷ codes "LT" ∷ codes "NE" ∷ []

-- the names of the standard function blocks
abbrev pub blocks : List (List ℕ)
blocks = codes "TON" ∷ codes "TOF" ∷ codes "TP" ∷ codes "CTU" ∷ codes "CTD" ∷ codes "CTUD" ∷ codes "SR" ∷ codes "RS" ∷ codes "R_TRIG" ∷ codes "F_TRIG" ∷ []

-- the names of the enables: an input and an output of every function and block
abbrev pub enables : List (List ℕ)
enables = codes "EN" ∷ codes "ENO" ∷ []

-- the table has the word, whatever the case of its letters
abbrev pub is_in : List (List ℕ) → List ℕ → Bool
is_in table word = list_any (λ entry. str_eq_ignore_ascii_case word entry) table

-- a word of the text's grammar, whatever the case of its letters
abbrev pub is_keyword : List ℕ → Bool
is_keyword word = is_in keywords word

-- the name of the conversion from a type to another one
unfoldable pub is_conversion : List ℕ → Bool
is_conversion word = list_any (λ from. list_any (λ to. not (same_ty from to) && str_eq_ignore_ascii_case word (conversion_name from to)) all_types) all_types

-- the name of a standard function or block
abbrev pub is_of_library : List ℕ → Bool
is_of_library word = is_in functions word || is_conversion word || is_in blocks word

-- what a text may not declare: keywords, EN and ENO, types, functions and blocks
abbrev pub is_listed : List ℕ → Bool
is_listed word = is_keyword word || is_in enables word || is_in (map type_name all_types) word || is_of_library word

-- the names that the compiler keeps for itself: those that begin with PLCX_
abbrev pub is_own : List ℕ → Bool
is_own word = str_eq_ignore_ascii_case (take 5 word) (codes "PLCX_")

-- what a diagram may not declare
abbrev pub is_reserved : List ℕ → Bool
is_reserved word = is_listed word || is_own word
