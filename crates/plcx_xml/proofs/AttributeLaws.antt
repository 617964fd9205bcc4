-- Attributes: what is read is what is spelled, with their spans.
use Rattle.std.proofs.Common.{◌≡◌, ◌<◌, ◌≤◌, ℕ, zero, suc, ◌+◌, ◌-◌, List, [], ◌∷◌, ◌++◌, length, refl, ap, sym, subst, ◌∙◌, arith, None, Some, append_assoc, length-append}
use Rattle.std.specs.declared.option.Option.{Option}
use Rattle.std.specs.Option.{option_map}
use Rattle.plcx_types.specs.declared.span.Span.{Span}
use Rattle.plcx_xml.specs.declared.tree.Attribute.{Attribute}
use Rattle.plcx_xml.specs.Grammar.{SpellsAttribute, SpellsAttributes, span_from}
use Rattle.plcx_xml.specs.Reading.{Parts, parts_at}
use Rattle.plcx_xml.specs.Reads.{span_between, attribute_of, attribute_at, value_of, many, many_then}
use Rattle.plcx_xml.proofs.ManyTimes.{many-none, many-some}
use Rattle.plcx_xml.proofs.Steps.{bind_some}
use Rattle.plcx_xml.proofs.WrittenLaws.{map_some, written-sound, written-again}
use Rattle.plcx_xml.proofs.Values.{Named, parts-sound, parts-again}

-- the quoted part of an attribute, before what follows it
quoted-regroup : (name left right v rest : List ℕ) (q : ℕ) → (name ++ (left ++ (61 ∷ (right ++ (q ∷ (v ++ (q ∷ []))))))) ++ rest ≡ name ++ (left ++ (61 ∷ (right ++ (q ∷ (v ++ (q ∷ rest))))))
quoted-regroup name left right v rest q = simp append_assoc

-- spans by offsets from the front are those by what is left
pub span-same : (last at before inner rest : ℕ) → at + (before + (inner + rest)) ≡ last → ◌≡◌ {A = Span} (record { start = last - (inner + rest); end = last - rest }) (span_from (at + before) inner)
span-same last at before inner rest h =
    let s : last - (inner + rest) ≡ at + before = omega arith in
    let e : last - rest ≡ at + before + inner = omega arith in
    rw (s, e) refl

pub attribute-spelled : (last at : ℕ) (bytes : List ℕ) (p : Parts) (value : List ℕ) → parts_at bytes ≡ Some p → value_of p.written ≡ Some value → at + length bytes ≡ last → (front : List ℕ) × SpellsAttribute at (attribute_of last p value).0 front × (bytes ≡ front ++ p.rest)
attribute-spelled last at bytes p value h v l =
    let s = parts-sound bytes p h in
    let n = s.4 in
    let quoted = p.name ++ (n.left ++ (61 ∷ (n.right ++ (n.quote ∷ (p.written ++ (n.quote ∷ [])))))) in
    let own : p.own ≡ quoted ++ p.rest = n.spelled ∙ sym (quoted-regroup p.name n.left n.right p.written p.rest n.quote) in
    let whole : bytes ≡ (s.0 ++ quoted) ++ p.rest = s.3 ∙ (ap (λ (xs : List ℕ). s.0 ++ xs) own ∙ sym (append_assoc s.0 quoted p.rest)) in
    let long : length p.own ≡ length quoted + length p.rest = ap (λ (xs : List ℕ). length xs) own ∙ length-append quoted p.rest in
    let all : length bytes ≡ length s.0 + length p.own = ap (λ (xs : List ℕ). length xs) s.3 ∙ length-append s.0 p.own in
    let sum : at + (length s.0 + (length quoted + length p.rest)) ≡ last = omega arith in (
      s.0 ++ quoted,
      record {
        before = s.0;
        left = n.left;
        right = n.right;
        quote = n.quote;
        written = p.written;
        quoted = quoted;
        parted = (s.1, s.2);
        named = n.named;
        spaced = n.spaced;
        inside = (n.is_one, n.all);
        value = written-sound p.written value v;
        inner = refl;
        all = refl;
        span = rw long (span-same last at (length s.0) (length quoted) (length p.rest) sum);
      },
      whole,
    )

pub attribute-sound : (last at : ℕ) (bytes : List ℕ) (a : Attribute) (rest : List ℕ) → attribute_at last bytes ≡ Some (a, rest) → at + length bytes ≡ last → (front : List ℕ) × SpellsAttribute at a front × (bytes ≡ front ++ rest)
attribute-sound last at bytes a rest h l =
    let f : Parts → Option (Attribute × List ℕ) = λ p. option_map (attribute_of last p) (value_of p.written) in
    let b = bind_some (parts_at bytes) f (a, rest) h in
    let m = map_some (attribute_of last b.0) (value_of b.0.written) (a, rest) b.2 in
    subst (λ (r : Attribute × List ℕ). (front : List ℕ) × SpellsAttribute at r.0 front × (bytes ≡ front ++ r.1)) m.2 (attribute-spelled last at bytes b.0 m.0 b.1 m.1 l)

pub attribute-again : (last at : ℕ) (front : List ℕ) (a : Attribute) (rest : List ℕ) → SpellsAttribute at a front → at + length front + length rest ≡ last → attribute_at last (front ++ rest) ≡ Some (a, rest)
attribute-again last at front a rest s l =
    let own = s.quoted ++ rest in
    let spelled : own ≡ a.name ++ (s.left ++ (61 ∷ (s.right ++ (s.quote ∷ (s.written ++ (s.quote ∷ rest)))))) = ap (λ (xs : List ℕ). xs ++ rest) s.inner ∙ quoted-regroup a.name s.left s.right s.written rest s.quote in
    let n : Named own a.name s.written rest = record { left = s.left; right = s.right; quote = s.quote; named = s.named; spaced = s.spaced; is_one = s.inside.0; all = s.inside.1; spelled = spelled } in
    let read = parts-again s.before own a.name s.written rest s.parted.0 s.parted.1 n in
    let whole : front ++ rest ≡ s.before ++ own = ap (λ (xs : List ℕ). xs ++ rest) s.all ∙ append_assoc s.before s.quoted rest in
    let long : length own ≡ length s.quoted + length rest = length-append s.quoted rest in
    let all : length front ≡ length s.before + length s.quoted = ap (λ (xs : List ℕ). length xs) s.all ∙ length-append s.before s.quoted in
    let sum : at + (length s.before + (length s.quoted + length rest)) ≡ last = omega arith in
    let span : span_between last own rest ≡ a.span = rw long (span-same last at (length s.before) (length s.quoted) (length rest) sum) ∙ sym s.span in
    rw (whole, read, written-again s.written a.value s.value) (ap (λ (w : Span). let r : Option (Attribute × List ℕ) = Some (record { name = a.name; value = a.value; span = w }, rest) in r) span)

-- these attributes stand at this offset, before those bytes
abbrev StandAt : ℕ → List ℕ → List Attribute × List ℕ → Type 0
StandAt at bytes found = (middle : List ℕ) × SpellsAttributes at found.0 middle × (bytes ≡ middle ++ found.1)

one-more : (last at n : ℕ) (bytes : List ℕ) (o : Option (Attribute × List ℕ)) → attribute_at last bytes ≡ o → at + length bytes ≡ last → ((next : ℕ) (rest : List ℕ) → next + length rest ≡ last → StandAt next rest (many (attribute_at last) n rest)) → StandAt at bytes (many_then o bytes (many (attribute_at last) n))
one-more last at n bytes None e l ih = ([], refl, refl)
one-more last at n bytes (Some a) e l ih =
    let s = attribute-sound last at bytes a.0 a.1 e l in
    let long : length bytes ≡ length s.0 + length a.1 = ap (λ (xs : List ℕ). length xs) s.2 ∙ length-append s.0 a.1 in
    let sum : at + length s.0 + length a.1 ≡ last = omega arith in
    let more = ih (at + length s.0) a.1 sum in
    (s.0 ++ more.0, (s.0, more.0, refl, s.1, more.1), s.2 ∙ (ap (λ (xs : List ℕ). s.0 ++ xs) more.2 ∙ sym (append_assoc s.0 more.0 (many (attribute_at last) n a.1).1)))

-- reading over and over gives attributes one behind another
pub attributes-sound : (last at n : ℕ) (bytes : List ℕ) → at + length bytes ≡ last → (middle : List ℕ) × SpellsAttributes at (many (attribute_at last) n bytes).0 middle × (bytes ≡ middle ++ (many (attribute_at last) n bytes).1)
attributes-sound last at zero bytes l = ([], refl, refl)
attributes-sound last at (suc n) bytes l = one-more last at n bytes (attribute_at last bytes) refl l (λ next rest k. attributes-sound last next n rest k)

spelled-long : (at : ℕ) (a : Attribute) (front : List ℕ) → SpellsAttribute at a front → 0 < length front
spelled-long at a front s =
    let all : length front ≡ length s.before + length s.quoted = ap (λ (xs : List ℕ). length xs) s.all ∙ length-append s.before s.quoted in
    let some = s.parted.0 in
    omega arith

-- attributes that are spelled are read, up to where none stands
pub attributes-again : (last at n : ℕ) (middle : List ℕ) (more : List Attribute) (rest : List ℕ) → SpellsAttributes at more middle → None ≡ attribute_at last rest → length middle ≤ n → at + length middle + length rest ≡ last → many (attribute_at last) n (middle ++ rest) ≡ (more, rest)
attributes-again last at n middle [] rest s none k l = rw s (many-none (attribute_at last) n rest none)
attributes-again last at zero middle (a ∷ more) rest s none k l =
    let some = spelled-long at a s.0 s.3 in
    let all : length middle ≡ length s.0 + length s.1 = ap (λ (xs : List ℕ). length xs) s.2 ∙ length-append s.0 s.1 in
    let no : ⊥ = absurd (omega arith) in
    absurd no
attributes-again last at (suc n) middle (a ∷ more) rest s none k l =
    let some = spelled-long at a s.0 s.3 in
    let all : length middle ≡ length s.0 + length s.1 = ap (λ (xs : List ℕ). length xs) s.2 ∙ length-append s.0 s.1 in
    let behind : length (s.1 ++ rest) ≡ length s.1 + length rest = length-append s.1 rest in
    let sum : at + length s.0 + length (s.1 ++ rest) ≡ last = omega arith in
    let first : Some (a, s.1 ++ rest) ≡ attribute_at last (s.0 ++ (s.1 ++ rest)) = sym (attribute-again last at s.0 a (s.1 ++ rest) s.3 sum) in
    let sum' : at + length s.0 + length s.1 + length rest ≡ last = omega arith in
    let within : length s.1 ≤ n = omega arith in
    let next : many (attribute_at last) n (s.1 ++ rest) ≡ (more, rest) = attributes-again last (at + length s.0) n s.1 more rest s.4 none within sum' in
    let whole : middle ++ rest ≡ s.0 ++ (s.1 ++ rest) = ap (λ (xs : List ℕ). xs ++ rest) s.2 ∙ append_assoc s.0 s.1 rest in
    ap (λ (xs : List ℕ). many (attribute_at last) (suc n) xs) whole
    ∙ (many-some (attribute_at last) n (s.0 ++ (s.1 ++ rest)) (a, s.1 ++ rest) first
    ∙ ap (λ (r : List Attribute × List ℕ). let q : List Attribute × List ℕ = (a ∷ r.0, r.1) in q) next)
