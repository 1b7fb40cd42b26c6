-- What stands for a byte begins and ends no tag and no quoted value.
use Rattle.std.proofs.Common.{◌≡◌, ℕ, ◌/◌, Bool, true, false, cond, ◌||◌, ◌==◌, List, [], ◌∷◌, ◌++◌, refl, ◌∙◌, arith, inl, inr}
use Rattle.std.specs.Prelude.{flat_map, nat_le, codes}
use Rattle.std.specs.List.{list_any}
use Rattle.std.proofs.lemmas.Bool.Decides.{nat_tests}
use Rattle.stow_data.specs.Digits.{digit}
use Rattle.bay_views.specs.declared.character_sets.CharacterSet.{CharacterSet}
use Rattle.bay_views.specs.CharacterSets.{has_byte}
use Rattle.bay_views.specs.Escapes.{breaks_out, is_markup, is_printable, entity, reference, written, written_in, written_text, escaped, escaped_in, escaped_text, IsEntity, IsWritten}

any_append : (xs ys : List ℕ) → list_any breaks_out xs ≡ false → list_any breaks_out ys ≡ false → list_any breaks_out (xs ++ ys) ≡ false
any_append [] ys p q = q
any_append (x ∷ xs) ys p q = go (breaks_out x) p (λ e. any_append xs ys e q)
  where
    go : (t : Bool) → (t || list_any breaks_out xs) ≡ false → (list_any breaks_out xs ≡ false → list_any breaks_out (xs ++ ys) ≡ false) → (t || list_any breaks_out (xs ++ ys)) ≡ false
    go true e more = e
    go false e more = more e

-- no more than the five characters break out
markup_first : (b : ℕ) → is_markup b ≡ false → breaks_out b ≡ false
markup_first b e = grind (arith, nat_tests)

digit_plain : (n : ℕ) → is_markup (digit n) ≡ false
digit_plain n = grind (arith, nat_tests)

digits_plain : (b : ℕ) → list_any is_markup (35 ∷ digit (b / 100) ∷ digit (b / 10) ∷ digit b ∷ []) ≡ false
digits_plain b = rw (digit_plain (b / 100), digit_plain (b / 10), digit_plain b) refl

digits_harmless : (b : ℕ) → list_any breaks_out (38 ∷ 35 ∷ digit (b / 100) ∷ digit (b / 10) ∷ digit b ∷ 59 ∷ []) ≡ false
digits_harmless b = rw (markup_first (digit (b / 100)) (digit_plain (b / 100)), markup_first (digit (b / 10)) (digit_plain (b / 10)), markup_first (digit b) (digit_plain b)) refl

reference_harmless : (b : ℕ) → list_any breaks_out (reference b) ≡ false
reference_harmless b = go (nat_le 160 b)
  where
    go : (t : Bool) → list_any breaks_out (cond t (38 ∷ 35 ∷ digit (b / 100) ∷ digit (b / 10) ∷ digit b ∷ 59 ∷ []) (codes "&#65533;")) ≡ false
    go true = digits_harmless b
    go false = refl

reference_whole : (b : ℕ) → IsEntity (reference b)
reference_whole b = go (nat_le 160 b)
  where
    go : (t : Bool) → IsEntity (cond t (38 ∷ 35 ∷ digit (b / 100) ∷ digit (b / 10) ∷ digit b ∷ 59 ∷ []) (codes "&#65533;"))
    go true = record { name = 35 ∷ digit (b / 100) ∷ digit (b / 10) ∷ digit b ∷ []; text_is = refl; plain = digits_plain b }
    go false = record { name = codes "#65533"; text_is = refl; plain = refl }

entity_harmless : (b : ℕ) → list_any breaks_out (entity b) ≡ false
entity_harmless b = go (b == 38) (b == 60) (b == 62) (b == 34)
  where
    go : (p q r t : Bool) → list_any breaks_out (cond p (codes "&amp;") (cond q (codes "&lt;") (cond r (codes "&gt;") (cond t (codes "&quot;") (codes "&apos;"))))) ≡ false
    go true q r t = refl
    go false true r t = refl
    go false false true t = refl
    go false false false true = refl
    go false false false false = refl

entity_whole : (b : ℕ) → IsEntity (entity b)
entity_whole b = go (b == 38) (b == 60) (b == 62) (b == 34)
  where
    go : (p q r t : Bool) → IsEntity (cond p (codes "&amp;") (cond q (codes "&lt;") (cond r (codes "&gt;") (cond t (codes "&quot;") (codes "&apos;")))))
    go true q r t = record { name = codes "amp"; text_is = refl; plain = refl }
    go false true r t = record { name = codes "lt"; text_is = refl; plain = refl }
    go false false true t = record { name = codes "gt"; text_is = refl; plain = refl }
    go false false false true = record { name = codes "quot"; text_is = refl; plain = refl }
    go false false false false = record { name = codes "apos"; text_is = refl; plain = refl }

byte_harmless : (b : ℕ) → list_any breaks_out (b ∷ []) ≡ breaks_out b
byte_harmless b = go (breaks_out b)
  where
    go : (t : Bool) → (t || false) ≡ t
    go true = refl
    go false = refl

pub written_harmless : (b : ℕ) → list_any breaks_out (written b) ≡ false
written_harmless b = go (is_markup b) (is_printable b) refl
  where
    go : (t p : Bool) → is_markup b ≡ t → list_any breaks_out (cond t (entity b) (cond p (b ∷ []) (reference b))) ≡ false
    go true p e = entity_harmless b
    go false true e = byte_harmless b ∙ markup_first b e
    go false false e = reference_harmless b

pub written_whole : (b : ℕ) → IsWritten b (written b)
written_whole b = go (is_markup b) (is_printable b) refl
  where
    go : (t p : Bool) → is_markup b ≡ t → IsWritten b (cond t (entity b) (cond p (b ∷ []) (reference b)))
    go true p e = inr (entity_whole b)
    go false true e = inl (refl, e)
    go false false e = inr (reference_whole b)

high_plain : (b : ℕ) → nat_le 128 b ≡ true → is_markup b ≡ false
high_plain b e = grind (arith, nat_tests)

pub text_harmless : (b : ℕ) → list_any breaks_out (written_text b) ≡ false
text_harmless b = go (nat_le 128 b) refl
  where
    go : (t : Bool) → nat_le 128 b ≡ t → list_any breaks_out (cond t (b ∷ []) (written b)) ≡ false
    go true e = byte_harmless b ∙ markup_first b (high_plain b e)
    go false e = written_harmless b

pub text_whole : (b : ℕ) → IsWritten b (written_text b)
text_whole b = go (nat_le 128 b) refl
  where
    go : (t : Bool) → nat_le 128 b ≡ t → IsWritten b (cond t (b ∷ []) (written b))
    go true e = inl (refl, high_plain b e)
    go false e = written_whole b

pub all_harmless : (text : List ℕ) → list_any breaks_out (escaped text) ≡ false
all_harmless [] = refl
all_harmless (b ∷ bs) = any_append (written b) (flat_map written bs) (written_harmless b) (all_harmless bs)

pub all_text_harmless : (text : List ℕ) → list_any breaks_out (escaped_text text) ≡ false
all_text_harmless [] = refl
all_text_harmless (b ∷ bs) = any_append (written_text b) (flat_map written_text bs) (text_harmless b) (all_text_harmless bs)

in_harmless : (set : CharacterSet) (b : ℕ) → list_any breaks_out (written_in set b) ≡ false
in_harmless set b = go (has_byte set b)
  where
    go : (t : Bool) → list_any breaks_out (cond t (written b) (codes "&#65533;")) ≡ false
    go true = written_harmless b
    go false = refl

pub in_whole : (set : CharacterSet) (b : ℕ) → IsWritten b (written_in set b)
in_whole set b = go (has_byte set b)
  where
    go : (t : Bool) → IsWritten b (cond t (written b) (codes "&#65533;"))
    go true = written_whole b
    go false = inr (record { name = codes "#65533"; text_is = refl; plain = refl })

pub all_in_harmless : (set : CharacterSet) (text : List ℕ) → list_any breaks_out (escaped_in set text) ≡ false
all_in_harmless set [] = refl
all_in_harmless set (b ∷ bs) = any_append (written_in set b) (flat_map (written_in set) bs) (in_harmless set b) (all_in_harmless set bs)
