-- The token that is read is the token that stands there.
use Rattle.std.proofs.Common.{◌≡◌, ◌<◌, ◌≤◌, ℕ, ◌+◌, ◌-◌, Bool, true, false, List, [], ◌∷◌, ◌++◌, length, refl, ap, sym, subst, ◌∙◌, ◌⊎◌, inl, inr, arith, None, Some, append_assoc, length-append, nat_eq}
use Rattle.std.specs.declared.option.Option.{Option}
use Rattle.std.specs.List.{list_all}
use Rattle.std.proofs.lemmas.Bool.{eqb-true}
use Rattle.plcx_types.specs.declared.span.Span.{Span}
use Rattle.plcx_xml.specs.declared.tree.Attribute.{Attribute}
use Rattle.plcx_xml.specs.declared.token.Token.{Token}
use Rattle.plcx_xml.specs.declared.token.Kind.{Kind}
use Rattle.plcx_xml.specs.declared.token.Kind.TheVariants as kind
use Rattle.plcx_xml.specs.Character.{is_first, is_space, is_text}
use Rattle.std.specs.Char.{encode_utf8}
use Rattle.std.specs.Prelude.{codes}
use Rattle.plcx_xml.specs.Grammar.{Stops, IsName, SpellsReference, SpellsEnclosed, SpellsEnd, SpellsTag, SpellsKind, IsWhole, StandsAt, span_from}
use Rattle.plcx_xml.specs.Reading.{run_at, behind_space, text_at, close_at, begin_at, end_at, reference_at, behind, enclosed_at}
use Rattle.plcx_xml.specs.Reads.{span_between, attributes_at, token_of, end_token, text_token, tag_kind, tag_behind, tag_token, reference_token, comment_token, instruction_token, cdata_token, other_token, or_else, token_at}
use Rattle.plcx_xml.proofs.Runs.{run-sound, apart, stops_at_head, heads_append}
use Rattle.plcx_xml.proofs.Steps.{bind_some, text-sound, text-again, text-not, long-heads}
use Rattle.plcx_xml.proofs.WrittenLaws.{map_some, reference-sound, reference-again, reference-not}
use Rattle.plcx_xml.proofs.Enclosing.{enclosed-sound, enclosed-again, enclosed-not}
use Rattle.plcx_xml.proofs.AttributeLaws.{attributes-sound, attributes-again}
use Rattle.plcx_xml.proofs.TagLaws.{close_text, close-sound, close-behind, begin-sound, begin-again, begin-not, end-not, end-not-begin, end-sound, end-again, end-not-slash, begin-not-name, attribute-not, name-stops}

pub span-here : (last at : ℕ) (bytes text rest : List ℕ) → bytes ≡ text ++ rest → at + length bytes ≡ last → span_between last bytes rest ≡ span_from at (length text)
span-here last at bytes text rest h l =
    let long : length bytes ≡ length text + length rest = ap (λ (xs : List ℕ). length xs) h ∙ length-append text rest in
    let s : last - length bytes ≡ at = omega arith in
    let e : last - length rest ≡ at + length text = omega arith in
    rw (s, e) refl

end_token-sound : (last at : ℕ) (bytes : List ℕ) (t : Token) (rest : List ℕ) → end_token last bytes ≡ Some (t, rest) → at + length bytes ≡ last → StandsAt at bytes t rest
end_token-sound last at bytes t rest h l =
    let P = List ℕ × List ℕ in
    let f : P → Token × List ℕ = λ p. token_of (kind.End p.0) last bytes p.1 in
    let m = map_some f (end_at bytes) (t, rest) h in
    let e = end-sound bytes m.0.0 m.0.1 m.1 in
    let found : StandsAt at bytes (f m.0).0 m.0.1 = record { text = e.0; spelled = e.1; whole = tt; split = e.2; spanned = span-here last at bytes e.0 m.0.1 e.2 l } in
    subst (λ (d : Token × List ℕ). StandsAt at bytes d.0 d.1) m.2 found

text_token-sound : (last at : ℕ) (bytes : List ℕ) (t : Token) (rest : List ℕ) → text_token last bytes ≡ Some (t, rest) → at + length bytes ≡ last → StandsAt at bytes t rest
text_token-sound last at bytes t rest h l =
    let P = List ℕ × List ℕ in
    let f : P → Token × List ℕ = λ p. token_of (kind.Text p.0) last bytes p.1 in
    let m = map_some f (text_at bytes) (t, rest) h in
    let e = text-sound bytes m.0.0 m.0.1 m.1 in
    let found : StandsAt at bytes (f m.0).0 m.0.1 = record { text = m.0.0; spelled = (refl, e.0, e.1); whole = e.3; split = e.2; spanned = span-here last at bytes m.0.0 m.0.1 e.2 l } in
    subst (λ (d : Token × List ℕ). StandsAt at bytes d.0 d.1) m.2 found

tag-spelled : (at : ℕ) (b : Bool) (name : List ℕ) (attributes : List Attribute) (text : List ℕ) → SpellsTag at name attributes (close_text b) text → SpellsKind at (tag_kind b name attributes) text
tag-spelled at true name attributes text s = s
tag-spelled at false name attributes text s = s

tag-whole : (b : Bool) (name : List ℕ) (attributes : List Attribute) (rest : List ℕ) → IsWhole (tag_kind b name attributes) rest
tag-whole true name attributes rest = tt
tag-whole false name attributes rest = tt

tag-regroup : (name middle space close rest : List ℕ) → (name ++ (middle ++ (space ++ close))) ++ rest ≡ name ++ (middle ++ (space ++ (close ++ rest)))
tag-regroup name middle space close rest = simp append_assoc

tag-length : (bytes name after : List ℕ) → bytes ≡ 60 ∷ (name ++ after) → length bytes ≡ 1 + (length name + length after)
tag-length bytes name after b =
    let e : length (60 ∷ (name ++ after)) ≡ 1 + (length name + length after) = omega (arith, length-append name after) in
    ap (λ (xs : List ℕ). length xs) b ∙ e

tag-split : (bytes name after middle found space behind close rest : List ℕ) → bytes ≡ 60 ∷ (name ++ after) → after ≡ middle ++ found → found ≡ space ++ behind → behind ≡ close ++ rest → bytes ≡ (60 ∷ (name ++ (middle ++ (space ++ close)))) ++ rest
tag-split bytes name after middle found space behind close rest b a f c =
    rw (b, a, f, c) (ap (λ (xs : List ℕ). 60 ∷ xs) (sym (tag-regroup name middle space close rest)))

tag_behind-sound : (last at : ℕ) (bytes name after : List ℕ) (t : Token) (rest : List ℕ) → IsName name → bytes ≡ 60 ∷ (name ++ after) → tag_behind last bytes name (attributes_at last after) ≡ Some (t, rest) → at + length bytes ≡ last → StandsAt at bytes t rest
tag_behind-sound last at bytes name after t rest n b h l =
    let found = attributes_at last after in
    let f : Bool × List ℕ → Token × List ℕ = λ e. token_of (tag_kind e.0 name found.0) last bytes e.1 in
    let m = map_some f (close_at (behind_space found.1)) (t, rest) h in
    let close = close_text m.0.0 in
    let long : length bytes ≡ 1 + (length name + length after) = tag-length bytes name after b in
    let sum : at + 1 + length name + length after ≡ last = omega arith in
    let a = attributes-sound last (at + 1 + length name) (length after) after sum in
    let run = run-sound is_space found.1 in
    let space = (run_at is_space found.1).0 in
    let text = 60 ∷ (name ++ (a.0 ++ (space ++ close))) in
    let split : bytes ≡ text ++ m.0.1 = tag-split bytes name after a.0 found.1 space (behind_space found.1) close m.0.1 b a.2 run.2 (close-sound (behind_space found.1) m.0 m.1) in
    let spelled : SpellsTag at name found.0 close text = record { middle = a.0; space = space; named = n; inner = a.1; spaced = run.0; all = refl } in
    let here : StandsAt at bytes (f m.0).0 m.0.1 = record {
      text = text;
      spelled = tag-spelled at m.0.0 name found.0 text spelled;
      whole = tag-whole m.0.0 name found.0 m.0.1;
      split = split;
      spanned = span-here last at bytes text m.0.1 split l;
    } in
    subst (λ (d : Token × List ℕ). StandsAt at bytes d.0 d.1) m.2 here

tag_token-sound : (last at : ℕ) (bytes : List ℕ) (t : Token) (rest : List ℕ) → tag_token last bytes ≡ Some (t, rest) → at + length bytes ≡ last → StandsAt at bytes t rest
tag_token-sound last at bytes t rest h l =
    let f : List ℕ × List ℕ → Option (Token × List ℕ) = λ p. tag_behind last bytes p.0 (attributes_at last p.1) in
    let a = bind_some (begin_at bytes) f (t, rest) h in
    let b = begin-sound bytes a.0.0 a.0.1 a.1 in
    tag_behind-sound last at bytes a.0.0 a.0.1 t rest b.0 b.1 a.2 l

reference_token-sound : (last at : ℕ) (bytes : List ℕ) (t : Token) (rest : List ℕ) → reference_token last bytes ≡ Some (t, rest) → at + length bytes ≡ last → StandsAt at bytes t rest
reference_token-sound last at bytes t rest h l =
    let f : ℕ × List ℕ → Token × List ℕ = λ p. token_of (kind.Reference (encode_utf8 p.0)) last bytes p.1 in
    let m = map_some f (reference_at bytes) (t, rest) h in
    let e = reference-sound bytes m.0.0 m.0.1 m.1 in
    let found : StandsAt at bytes (f m.0).0 m.0.1 = record { text = e.0; spelled = (m.0.0, e.1, refl); whole = tt; split = e.2; spanned = span-here last at bytes e.0 m.0.1 e.2 l } in
    subst (λ (d : Token × List ℕ). StandsAt at bytes d.0 d.1) m.2 found

comment_token-sound : (last at : ℕ) (bytes : List ℕ) (t : Token) (rest : List ℕ) → comment_token last bytes ≡ Some (t, rest) → at + length bytes ≡ last → StandsAt at bytes t rest
comment_token-sound last at bytes t rest h l =
    let f : List ℕ × List ℕ → Token × List ℕ = λ p. token_of kind.Comment last bytes p.1 in
    let m = map_some f (enclosed_at (codes "<!--") (codes "-->") bytes) (t, rest) h in
    let e = enclosed-sound (codes "<!--") 45 (45 ∷ 62 ∷ []) bytes m.0.0 m.0.1 m.1 in
    let found : StandsAt at bytes (f m.0).0 m.0.1 = record { text = e.0; spelled = (m.0.0, e.1); whole = tt; split = e.2; spanned = span-here last at bytes e.0 m.0.1 e.2 l } in
    subst (λ (d : Token × List ℕ). StandsAt at bytes d.0 d.1) m.2 found

instruction_token-sound : (last at : ℕ) (bytes : List ℕ) (t : Token) (rest : List ℕ) → instruction_token last bytes ≡ Some (t, rest) → at + length bytes ≡ last → StandsAt at bytes t rest
instruction_token-sound last at bytes t rest h l =
    let f : List ℕ × List ℕ → Token × List ℕ = λ p. token_of kind.Instruction last bytes p.1 in
    let m = map_some f (enclosed_at (codes "<?") (codes "?>") bytes) (t, rest) h in
    let e = enclosed-sound (codes "<?") 63 (62 ∷ []) bytes m.0.0 m.0.1 m.1 in
    let found : StandsAt at bytes (f m.0).0 m.0.1 = record { text = e.0; spelled = (m.0.0, e.1); whole = tt; split = e.2; spanned = span-here last at bytes e.0 m.0.1 e.2 l } in
    subst (λ (d : Token × List ℕ). StandsAt at bytes d.0 d.1) m.2 found

cdata_token-sound : (last at : ℕ) (bytes : List ℕ) (t : Token) (rest : List ℕ) → cdata_token last bytes ≡ Some (t, rest) → at + length bytes ≡ last → StandsAt at bytes t rest
cdata_token-sound last at bytes t rest h l =
    let f : List ℕ × List ℕ → Token × List ℕ = λ p. token_of (kind.Cdata p.0) last bytes p.1 in
    let m = map_some f (enclosed_at (codes "<![CDATA[") (codes "]]>") bytes) (t, rest) h in
    let e = enclosed-sound (codes "<![CDATA[") 93 (93 ∷ 62 ∷ []) bytes m.0.0 m.0.1 m.1 in
    let found : StandsAt at bytes (f m.0).0 m.0.1 = record { text = e.0; spelled = e.1; whole = tt; split = e.2; spanned = span-here last at bytes e.0 m.0.1 e.2 l } in
    subst (λ (d : Token × List ℕ). StandsAt at bytes d.0 d.1) m.2 found

either-some : {A : Type 0} (a b : Option A) (z : A) → or_else a b ≡ Some z → (a ≡ Some z) ⊎ (b ≡ Some z)
either-some None b z h = inr h
either-some (Some a) b z h = inl h

-- one of the two stands there
either-stands : (last at : ℕ) (bytes : List ℕ) (t : Token) (rest : List ℕ) (a b : Option (Token × List ℕ)) → (a ≡ Some (t, rest) → StandsAt at bytes t rest) → (b ≡ Some (t, rest) → StandsAt at bytes t rest) → or_else a b ≡ Some (t, rest) → StandsAt at bytes t rest
either-stands last at bytes t rest a b f g h = of (either-some a b (t, rest) h)
  where
    of : (a ≡ Some (t, rest)) ⊎ (b ≡ Some (t, rest)) → StandsAt at bytes t rest
    of (inl e) = f e
    of (inr e) = g e

other_token-sound : (last at : ℕ) (bytes : List ℕ) (t : Token) (rest : List ℕ) → other_token last bytes ≡ Some (t, rest) → at + length bytes ≡ last → StandsAt at bytes t rest
other_token-sound last at bytes t rest h l =
    either-stands last at bytes t rest (reference_token last bytes) (or_else (comment_token last bytes) (or_else (instruction_token last bytes) (cdata_token last bytes)))
    (λ e. reference_token-sound last at bytes t rest e l)
    (λ e. either-stands last at bytes t rest (comment_token last bytes) (or_else (instruction_token last bytes) (cdata_token last bytes))
    (λ i. comment_token-sound last at bytes t rest i l)
    (λ i. either-stands last at bytes t rest (instruction_token last bytes) (cdata_token last bytes)
    (λ j. instruction_token-sound last at bytes t rest j l)
    (λ j. cdata_token-sound last at bytes t rest j l) i) e) h

-- what is read stands there
pub token-sound : (last at : ℕ) (bytes : List ℕ) (t : Token) (rest : List ℕ) → token_at last bytes ≡ Some (t, rest) → at + length bytes ≡ last → StandsAt at bytes t rest
token-sound last at bytes t rest h l =
    either-stands last at bytes t rest (end_token last bytes) (or_else (tag_token last bytes) (or_else (text_token last bytes) (other_token last bytes)))
    (λ e. end_token-sound last at bytes t rest e l)
    (λ e. either-stands last at bytes t rest (tag_token last bytes) (or_else (text_token last bytes) (other_token last bytes))
    (λ i. tag_token-sound last at bytes t rest i l)
    (λ i. either-stands last at bytes t rest (text_token last bytes) (other_token last bytes)
    (λ j. text_token-sound last at bytes t rest j l)
    (λ j. other_token-sound last at bytes t rest j l) i) e) h

-- a token with the span that reading gives it
spanned : (last at : ℕ) (text rest : List ℕ) (k : Kind) (span : Span) → span ≡ span_from at (length text) → at + length (text ++ rest) ≡ last → ◌≡◌ {A = Option (Token × List ℕ)} (Some (token_of k last (text ++ rest) rest)) (Some (record { kind = k; span = span }, rest))
spanned last at text rest k span h l =
    let same : span_between last (text ++ rest) rest ≡ span = span-here last at (text ++ rest) text rest refl l ∙ sym h in
    ap (λ (w : Span). let r : Option (Token × List ℕ) = Some (record { kind = k; span = w }, rest) in r) same

text-less : (x : ℕ) → is_text x ≡ true → nat_eq x 60 ≡ false
text-less = apart (λ x. nat_eq x 60) is_text (λ x h. rw (eqb-true x 60 h) refl)

text_token-again : (last at : ℕ) (value rest : List ℕ) (span : Span) → 0 < length value → list_all is_text value ≡ true → Stops is_text rest → span ≡ span_from at (length value) → at + length (value ++ rest) ≡ last → token_at last (value ++ rest) ≡ Some (record { kind = kind.Text value; span = span }, rest)
text_token-again last at value rest span some all stops s l =
    let less : Stops (λ x. nat_eq x 60) (value ++ rest) = stops_at_head is_text (λ x. nat_eq x 60) (value ++ rest) text-less (heads_append is_text value rest (long-heads is_text value some all)) in
    rw (end-not (value ++ rest) less, begin-not (value ++ rest) less, text-again value rest some all stops) (spanned last at value rest (kind.Text value) span s l)

end_token-again : (last at : ℕ) (name text rest : List ℕ) (span : Span) → SpellsEnd name text → span ≡ span_from at (length text) → at + length (text ++ rest) ≡ last → token_at last (text ++ rest) ≡ Some (record { kind = kind.End name; span = span }, rest)
end_token-again last at name text rest span e s l =
    rw (end-again name text rest e) (spanned last at text rest (kind.End name) span s l)

tag_token-again : (last at : ℕ) (b : Bool) (name : List ℕ) (attributes : List Attribute) (text rest : List ℕ) (span : Span) → SpellsTag at name attributes (close_text b) text → span ≡ span_from at (length text) → at + length (text ++ rest) ≡ last → token_at last (text ++ rest) ≡ Some (record { kind = tag_kind b name attributes; span = span }, rest)
tag_token-again last at b name attributes text rest span e s l =
    let tail = e.space ++ (close_text b ++ rest) in
    let after = e.middle ++ tail in
    let whole : text ++ rest ≡ 60 ∷ (name ++ after) = ap (λ (xs : List ℕ). xs ++ rest) e.all ∙ ap (λ (xs : List ℕ). 60 ∷ xs) (tag-regroup name e.middle e.space (close_text b) rest) in
    let long : length (text ++ rest) ≡ 1 + (length name + length after) = tag-length (text ++ rest) name after whole in
    let parted : length after ≡ length e.middle + length tail = length-append e.middle tail in
    let sum : at + 1 + length name + length e.middle + length tail ≡ last = omega arith in
    let within : length e.middle ≤ length after = omega arith in
    let read : attributes_at last after ≡ (attributes, tail) = attributes-again last (at + 1 + length name) (length after) e.middle attributes tail e.inner (attribute-not last e.space b rest e.spaced) within sum in
    let begins : begin_at (text ++ rest) ≡ Some (name, after) = rw whole (begin-again name after e.named (name-stops (at + 1 + length name) attributes e.middle e.space rest b e.inner e.spaced)) in
    let no_end : end_at (text ++ rest) ≡ None = rw whole (end-not-begin name after e.named) in
    let behind : tag_behind last (text ++ rest) name (attributes_at last after) ≡ Some (record { kind = tag_kind b name attributes; span = span }, rest) = rw (read, close-behind e.space b rest e.spaced) (spanned last at text rest (tag_kind b name attributes) span s l) in
    rw (no_end, begins, behind) refl

-- neither a tag nor a text nor a reference
pub record IsOther (bytes : List ℕ) : Type 0 where
  pub no_end : end_at bytes ≡ None
  pub no_tag : begin_at bytes ≡ None
  pub no_text : text_at bytes ≡ None
  pub no_reference : reference_at bytes ≡ None

is-other : (x : ℕ) (rest : List ℕ) → nat_eq x 47 ≡ false → is_first x ≡ false → IsOther (60 ∷ (x ∷ rest))
is-other x rest s f = record {
  no_end = end-not-slash x rest s;
  no_tag = begin-not-name x rest f;
  no_text = text-not (60 ∷ (x ∷ rest)) refl;
  no_reference = reference-not (60 ∷ (x ∷ rest)) refl;
}

reference_token-again : (last at c : ℕ) (text rest : List ℕ) (span : Span) → SpellsReference c text → span ≡ span_from at (length text) → at + length (text ++ rest) ≡ last → token_at last (text ++ rest) ≡ Some (record { kind = kind.Reference (encode_utf8 c); span = span }, rest)
reference_token-again last at c text rest span e s l =
    let whole : text ++ rest ≡ 38 ∷ ((e.name ++ (59 ∷ [])) ++ rest) = ap (λ (xs : List ℕ). xs ++ rest) e.all in
    let no_end : end_at (text ++ rest) ≡ None = rw whole (end-not (38 ∷ ((e.name ++ (59 ∷ [])) ++ rest)) refl) in
    let no_tag : begin_at (text ++ rest) ≡ None = rw whole (begin-not (38 ∷ ((e.name ++ (59 ∷ [])) ++ rest)) refl) in
    let no_text : text_at (text ++ rest) ≡ None = rw whole (text-not (38 ∷ ((e.name ++ (59 ∷ [])) ++ rest)) refl) in
    rw (no_end, no_tag, no_text, reference-again c text rest e) (spanned last at text rest (kind.Reference (encode_utf8 c)) span s l)

comment_token-again : (last at : ℕ) (body text rest : List ℕ) (span : Span) → SpellsEnclosed (codes "<!--") (codes "-->") body text → span ≡ span_from at (length text) → at + length (text ++ rest) ≡ last → token_at last (text ++ rest) ≡ Some (record { kind = kind.Comment; span = span }, rest)
comment_token-again last at body text rest span e s l =
    let other : IsOther (text ++ rest) = subst (λ (xs : List ℕ). IsOther (xs ++ rest)) (sym e.all) (is-other 33 (45 ∷ 45 ∷ ((body ++ codes "-->") ++ rest)) refl refl) in
    rw (other.no_end, other.no_tag, other.no_text, other.no_reference, enclosed-again (codes "<!--") 45 (45 ∷ 62 ∷ []) body text rest e) (spanned last at text rest kind.Comment span s l)

instruction_token-again : (last at : ℕ) (body text rest : List ℕ) (span : Span) → SpellsEnclosed (codes "<?") (codes "?>") body text → span ≡ span_from at (length text) → at + length (text ++ rest) ≡ last → token_at last (text ++ rest) ≡ Some (record { kind = kind.Instruction; span = span }, rest)
instruction_token-again last at body text rest span e s l =
    let tail = (body ++ codes "?>") ++ rest in
    let other : IsOther (text ++ rest) = subst (λ (xs : List ℕ). IsOther (xs ++ rest)) (sym e.all) (is-other 63 tail refl refl) in
    let no_comment : enclosed_at (codes "<!--") (codes "-->") (text ++ rest) ≡ None = subst (λ (xs : List ℕ). enclosed_at (codes "<!--") (codes "-->") (xs ++ rest) ≡ None) (sym e.all) (enclosed-not (codes "<!--") (codes "-->") (60 ∷ 63 ∷ tail) refl) in
    rw (other.no_end, other.no_tag, other.no_text, other.no_reference, no_comment, enclosed-again (codes "<?") 63 (62 ∷ []) body text rest e) (spanned last at text rest kind.Instruction span s l)

cdata_token-again : (last at : ℕ) (body text rest : List ℕ) (span : Span) → SpellsEnclosed (codes "<![CDATA[") (codes "]]>") body text → span ≡ span_from at (length text) → at + length (text ++ rest) ≡ last → token_at last (text ++ rest) ≡ Some (record { kind = kind.Cdata body; span = span }, rest)
cdata_token-again last at body text rest span e s l =
    let tail = (body ++ codes "]]>") ++ rest in
    let other : IsOther (text ++ rest) = subst (λ (xs : List ℕ). IsOther (xs ++ rest)) (sym e.all) (is-other 33 (91 ∷ 67 ∷ 68 ∷ 65 ∷ 84 ∷ 65 ∷ 91 ∷ tail) refl refl) in
    let no_comment : enclosed_at (codes "<!--") (codes "-->") (text ++ rest) ≡ None = subst (λ (xs : List ℕ). enclosed_at (codes "<!--") (codes "-->") (xs ++ rest) ≡ None) (sym e.all) (enclosed-not (codes "<!--") (codes "-->") (60 ∷ 33 ∷ 91 ∷ 67 ∷ 68 ∷ 65 ∷ 84 ∷ 65 ∷ 91 ∷ tail) refl) in
    let no_instruction : enclosed_at (codes "<?") (codes "?>") (text ++ rest) ≡ None = subst (λ (xs : List ℕ). enclosed_at (codes "<?") (codes "?>") (xs ++ rest) ≡ None) (sym e.all) (enclosed-not (codes "<?") (codes "?>") (60 ∷ 33 ∷ 91 ∷ 67 ∷ 68 ∷ 65 ∷ 84 ∷ 65 ∷ 91 ∷ tail) refl) in
    rw (other.no_end, other.no_tag, other.no_text, other.no_reference, no_comment, no_instruction, enclosed-again (codes "<![CDATA[") 93 (93 ∷ 62 ∷ []) body text rest e) (spanned last at text rest (kind.Cdata body) span s l)

kind-again : (last at : ℕ) (k : Kind) (text rest : List ℕ) (span : Span) → SpellsKind at k text → IsWhole k rest → span ≡ span_from at (length text) → at + length (text ++ rest) ≡ last → token_at last (text ++ rest) ≡ Some (record { kind = k; span = span }, rest)
kind-again last at (kind.Start name attributes) text rest span e w s l = tag_token-again last at false name attributes text rest span e s l
kind-again last at (kind.Empty name attributes) text rest span e w s l = tag_token-again last at true name attributes text rest span e s l
kind-again last at (kind.End name) text rest span e w s l = end_token-again last at name text rest span e s l
kind-again last at (kind.Text value) text rest span e w s l =
    let s' : span ≡ span_from at (length value) = rw (← e.0) s in
    let l' : at + length (value ++ rest) ≡ last = rw (← e.0) l in
    rw e.0 (text_token-again last at value rest span e.1 e.2 w s' l')
kind-again last at (kind.Reference value) text rest span e w s l =
    reference_token-again last at e.0 text rest span e.1 s l ∙ ap (λ (v : List ℕ). let r : Option (Token × List ℕ) = Some (record { kind = kind.Reference v; span = span }, rest) in r) (sym e.2)
kind-again last at (kind.Cdata value) text rest span e w s l = cdata_token-again last at value text rest span e s l
kind-again last at kind.Comment text rest span e w s l = comment_token-again last at e.0 text rest span e.1 s l
kind-again last at kind.Instruction text rest span e w s l = instruction_token-again last at e.0 text rest span e.1 s l

-- what stands there is read
pub token-again : (last at : ℕ) (bytes : List ℕ) (t : Token) (rest : List ℕ) → StandsAt at bytes t rest → at + length bytes ≡ last → token_at last bytes ≡ Some (t, rest)
token-again last at bytes t rest h l =
    let l' : at + length (h.text ++ rest) ≡ last = rw (← h.split) l in
    rw h.split (kind-again last at t.kind h.text rest t.span h.spelled h.whole h.spanned l')
