-- What was read in front of a fault begins a whole text of a language, within the allowance.
use Rattle.std.proofs.Common.{◌≡◌, ℕ, ◌≤◌, List, [], ◌∷◌, ◌++◌, length, length-append, Result, Ok, Err, refl, sym, ap, subst, ◌∙◌, append_assoc, arith, inl, inr, ◌⊎◌}
use Rattle.std.proofs.lemmas.List.{append-nil}
use Rattle.plcx_lex.specs.Token.{Token}
use Rattle.plcx_lex.specs.declared.terminal.Terminal.TheVariants as t
use Rattle.plcx_lex.specs.Terminal.{terminal}
use Rattle.plcx_st.specs.Place.{IsTold, TellsLast}
use Rattle.plcx_read.specs.Reading.{syntax, too_deep, told_too_deep, Stop, ◌>>=◌}
use Rattle.plcx_read.proofs.Steady.{bind_err}

-- lists of tokens, with their depth
abbrev pub Language : Type 1
Language = List Token → ℕ → Type 0

-- what follows these tokens in the language
abbrev pub Behind : Language → List Token → Language
Behind L w = λ u d. L (w ++ u) d

-- ---- what stands before: anything, or no name at the end

abbrev pub Context : Type 1
Context = List Token → Type 0

abbrev pub Anything : Context
Anything pre = Unit {0}

abbrev pub NoName : Context
NoName pre = (before : List Token) (w : Token) → pre ≡ before ++ w ∷ [] → terminal w ≡ t.Name → ⊥

-- behind tokens like that the token is no sign that tells a name
abbrev pub Free : Context → List Token → Token → Type 0
Free C front x = (pre : List Token) → C pre → TellsLast (pre ++ front) x → ⊥

pub last_is : (before front : List Token) (x w : Token) → front ++ x ∷ [] ≡ before ++ w ∷ [] → x ≡ w
last_is [] [] x w h = cc
last_is [] (a ∷ front) x w h = absurd (omega (arith, ap length h, length-append front (x ∷ [])))
last_is (b ∷ before) [] x w h = absurd (omega (arith, ap length h, length-append before (w ∷ [])))
last_is (b ∷ before) (a ∷ front) x w h = last_is before front x w cc

pub no_name : (front : List Token) (x : Token) → (terminal x ≡ t.Name → ⊥) → NoName (front ++ x ∷ [])
no_name front x other before w h is = other (subst (λ (v : Token). terminal v ≡ t.Name) (sym (last_is before front x w h)) is)

pub no_name_yet : NoName []
no_name_yet before w h is = absurd (omega (arith, ap length h, length-append before (w ∷ [])))

-- ---- completions

-- the front is completed within the allowance
pub record Whole (L : Language) (a : ℕ) (front : List Token) : Type 0 where
  pub more : List Token
  pub depth : ℕ
  pub within : depth ≤ a
  pub whole : L (front ++ more) depth

-- the front and the next token are completed, at any depth
pub record Onward (L : Language) (front rest : List Token) : Type 0 where
  pub token : Token
  pub others : List Token
  pub parts : rest ≡ token ∷ others
  pub more : List Token
  pub depth : ℕ
  pub whole : L (front ++ token ∷ more) depth

-- the name stands last, and the token tells what it begins
abbrev pub Told : Token → List Token → Token → Type 0
Told w front s = (before : List Token) × (front ≡ before ++ w ∷ []) × IsTold w s

pub record Completes (C : Context) (L : Language) (a : ℕ) (ts : List Token) (f : Stop) : Type 0 where
  pub front : List Token
  pub parts : ts ≡ front ++ f.1
  pub begins : Whole L a front
  -- the token at the place would go on if there were no limit
  pub deep : f.0 ≡ too_deep → (o : Onward L front f.1) × Free C front o.token
  pub named : (w : Token) → f.0 ≡ told_too_deep w → (o : Onward L front f.1) × Told w front o.token

told_behind : (u : List Token) (w : Token) (front : List Token) (x : Token) → Told w front x → Told w (u ++ front) x
told_behind u w front x i = (u ++ i.0, ap (λ (v : List Token). u ++ v) i.1 ∙ sym (append_assoc u i.0 (w ∷ [])), i.2)

module _ (C : Context) (L : Language) (a : ℕ) where
  -- ---- at the place

  pub stop_here : (ts more : List Token) (d : ℕ) → d ≤ a → L more d → Completes C L a ts (syntax, ts)
  stop_here ts more d within whole = record {
    front = [];
    parts = refl;
    begins = record { more = more; depth = d; within = within; whole = whole };
    deep = λ is. absurd cc;
    named = λ w is. absurd cc;
  }

  pub deep_here : (x : Token) (ts more : List Token) (d : ℕ) → Free C [] x → d ≤ a → L more d → (others : List Token) (c : ℕ) → L (x ∷ others) c → Completes C L a (x ∷ ts) (too_deep, x ∷ ts)
  deep_here x ts more d free within whole others c on = record {
    front = [];
    parts = refl;
    begins = record { more = more; depth = d; within = within; whole = whole };
    deep = λ is. (record { token = x; others = ts; parts = refl; more = others; depth = c; whole = on }, free);
    named = λ w is. absurd cc;
  }

  -- at a sign behind a name
  pub told_here : (w x : Token) (ts more : List Token) (d : ℕ) → terminal w ≡ t.Name → (terminal x ≡ t.Open) ⊎ (terminal x ≡ t.Assign) → d ≤ a → L (w ∷ more) d → (others : List Token) (c : ℕ) → L (w ∷ x ∷ others) c
      → Completes C L a (w ∷ x ∷ ts) (told_too_deep w, x ∷ ts)
  told_here w x ts more d is tells within whole others c on = record {
    front = w ∷ [];
    parts = refl;
    begins = record { more = more; depth = d; within = within; whole = whole };
    deep = λ is. absurd cc;
    named = λ v e. (let same : v ≡ w = cc in (record { token = x; others = ts; parts = refl; more = others; depth = c; whole = on }, ([], ap (λ (u : Token). u ∷ []) (sym same), subst (λ (u : Token). IsTold u x) (sym same) (is, tells))));
  }

  -- the same tokens, and the same fault
  pub completes_along : (ts us : List Token) (f g : Stop) → ts ≡ us → f ≡ g → Completes C L a ts f → Completes C L a us g
  completes_along ts us f g e h c = subst (λ (w : List Token). Completes C L a w g) e (subst (λ (z : Stop). Completes C L a ts z) h c)

  -- ---- one after the other: the first fails, or what it read is followed by what fails

  pub one_by_one : {A B : Type 0} (r : Result A Stop) (k : A → Result B Stop) (us : List Token) (f : Stop) → (r ≡ Err f → Completes C L a us f) → ((x : A) → r ≡ Ok x → k x ≡ Err f → Completes C L a us f)
      → (r >>= k) ≡ Err f → Completes C L a us f
  one_by_one r k us f first next h =
      elim (bind_err r k f h) [
        | inl bad ↦ first bad
        | inr b ↦ next b.0 b.1 b.2
      ]

  -- ---- inside a part, behind which these tokens complete the whole

  module _ (M : Language) (b : ℕ) (g : ℕ → ℕ) (fits : (d : ℕ) → d ≤ b → g d ≤ a) where
    -- a part that may be the last
    pub as_last : ((w : List Token) (d : ℕ) → M w d → L w (g d)) → (us : List Token) (f : Stop) → Completes C M b us f → Completes C L a us f
    as_last embed us f c =
        let on : Onward M c.front f.1 → Onward L c.front f.1
        = λ o. record { token = o.token; others = o.others; parts = o.parts; more = o.more; depth = g o.depth; whole = embed (c.front ++ o.token ∷ o.more) o.depth o.whole } in
        record {
          front = c.front;
          parts = c.parts;
          begins = record { more = c.begins.more; depth = g c.begins.depth; within = fits c.begins.depth c.begins.within; whole = embed (c.front ++ c.begins.more) c.begins.depth c.begins.whole };
          deep = λ is. (let o = c.deep is in (on o.0, o.1));
          named = λ w is. (let o = c.named w is in (on o.0, o.1));
        }

    pub inside : (post : List Token) → ((w : List Token) (d : ℕ) → M w d → L (w ++ post) (g d)) → (us : List Token) (f : Stop) → Completes C M b us f → Completes C L a us f
    inside post embed us f c =
        let at : (front more : List Token) (d : ℕ) → M (front ++ more) d → L (front ++ (more ++ post)) (g d) = λ front more d m. subst (λ (v : List Token). L v (g d)) (append_assoc front more post) (embed (front ++ more) d m) in
        let on : Onward M c.front f.1 → Onward L c.front f.1
        = λ o. record { token = o.token; others = o.others; parts = o.parts; more = o.more ++ post; depth = g o.depth; whole = at c.front (o.token ∷ o.more) o.depth o.whole } in
        record {
          front = c.front;
          parts = c.parts;
          begins = record { more = c.begins.more ++ post; depth = g c.begins.depth; within = fits c.begins.depth c.begins.within; whole = at c.front c.begins.more c.begins.depth c.begins.whole };
          deep = λ is. (let o = c.deep is in (on o.0, o.1));
          named = λ w is. (let o = c.named w is in (on o.0, o.1));
        }

-- ---- behind tokens that were read

-- where what stands before may change from C to D
module _ (C D : Context) (L : Language) (a : ℕ) (w : List Token) (moves : (pre : List Token) → C pre → D (pre ++ w)) where
  free_behind : (front : List Token) (x : Token) → Free D front x → Free C (w ++ front) x
  free_behind front x free pre c i = free (pre ++ w) (moves pre c) (subst (λ (v : List Token). TellsLast v x) (sym (append_assoc pre w front)) i)

  pub behind : (us : List Token) (f : Stop) → Completes D (Behind L w) a us f → Completes C L a (w ++ us) f
  behind us f c =
      let at : (u : List Token) (d : ℕ) → L (w ++ (c.front ++ u)) d → L ((w ++ c.front) ++ u) d = λ u d l. subst (λ (v : List Token). L v d) (sym (append_assoc w c.front u)) l in
      let on : Onward (Behind L w) c.front f.1 → Onward L (w ++ c.front) f.1
      = λ o. record { token = o.token; others = o.others; parts = o.parts; more = o.more; depth = o.depth; whole = at (o.token ∷ o.more) o.depth o.whole } in
      record {
        front = w ++ c.front;
        parts = ap (λ (v : List Token). w ++ v) c.parts ∙ sym (append_assoc w c.front f.1);
        begins = record { more = c.begins.more; depth = c.begins.depth; within = c.begins.within; whole = at c.begins.more c.begins.depth c.begins.whole };
        deep = λ is. (let o = c.deep is in (on o.0, free_behind c.front o.0.token o.1));
        named = λ v is. (let o = c.named v is in (on o.0, told_behind w v c.front o.0.token o.1));
      }

module _ (C : Context) (L : Language) (a : ℕ) where
  -- tokens that may end in a name
  pub behind_any : (w us : List Token) (f : Stop) → Completes Anything (Behind L w) a us f → Completes C L a (w ++ us) f
  behind_any w us f c = behind C Anything L a w (λ pre _. tt) us f c

  -- a token that is no name
  pub behind_other : (x : Token) → (terminal x ≡ t.Name → ⊥) → (us : List Token) (f : Stop) → Completes NoName (λ u d. L (x ∷ u) d) a us f → Completes C L a (x ∷ us) f
  behind_other x other us f c = behind C NoName L a (x ∷ []) (λ pre _. no_name pre x other) us f c

  pub behind_token : (x : Token) (us : List Token) (f : Stop) → Completes Anything (λ u d. L (x ∷ u) d) a us f → Completes C L a (x ∷ us) f
  behind_token x us f c = behind C Anything L a (x ∷ []) (λ pre _. tt) us f c

-- nothing asked of what stands before
pub whatever : (C : Context) (L : Language) (a : ℕ) (us : List Token) (f : Stop) → Completes Anything L a us f → Completes C L a us f
whatever C L a us f c = behind_any C L a [] us f c

-- ---- tokens that are no sign behind a name

-- the first token, behind no name
pub free_first : (x : Token) → Free NoName [] x
free_first x pre c i = c i.0 i.1 (sym (append-nil pre) ∙ i.2) i.3.0

pub never_told : (C : Context) (front : List Token) (x : Token) → (terminal x ≡ t.Open → ⊥) → (terminal x ≡ t.Assign → ⊥) → Free C front x
never_told C front x opens assigns pre c i =
    elim i.3.1 [
      | inl is ↦ opens is
      | inr is ↦ assigns is
    ]
