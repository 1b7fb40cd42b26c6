-- Walks over words, one at a time.
use Rattle.std.proofs.Common.{◌≡◌, ℕ, Bool, true, false, List, [], ◌∷◌, ◌++◌, Some, refl, eqb, ◌∙◌, ap, sym}
use Rattle.std.specs.List.{fold}
use Rattle.std.proofs.lemmas.Bool.{and_from, both_ways, not-true}
use Rattle.std.proofs.lemmas.List.{append-nil, append_assoc}
use Rattle.clap.specs.Words.{Text, Rule, Shape, built}
use Rattle.clap.specs.Simple.{names_of}
use Rattle.clap.specs.Takes.{walk_passes, turn_passes}
use Rattle.clap.specs.Walk.{Walk, Held, Names, Waiting, walked, walk_from, nothing_held}
use Rattle.stow_words.specs.Command.{stow_app}
use Rattle.stow_words.specs.Plain.{is_plain}

-- ---- after a subcommand all words are kept for it

abbrev pub halted : Held → Waiting → ℕ → Bool → Text → List Text → Walk
halted h wt p t n ws = record { held = h; waiting = wt; position = p; is_trailing = t; stopped = Some (n, ws) }

pub halted_walk : (c : List Rule) (ns : Names) (h : Held) (wt : Waiting) (p : ℕ) (t : Bool) (n : Text) (ws rest : List Text) → fold (walked c ns) (halted h wt p t n ws) rest ≡ halted h wt p t n (ws ++ rest)
unfolding walked
halted_walk c ns h wt p t n ws [] = ap (halted h wt p t n) (sym (append-nil ws))
halted_walk c ns h wt p t n ws (word ∷ rest) = halted_walk c ns h wt p t n (ws ++ word ∷ []) rest ∙ ap (halted h wt p t n) (append_assoc ws (word ∷ []) rest)

pub halted_passes : (s : Shape) (ns : Names) (h : Held) (wt : Waiting) (p : ℕ) (t : Bool) (n : Text) (ws rest : List Text) → walk_passes s ns (halted h wt p t n ws) rest ≡ true
unfolding walked walk_passes
halted_passes s ns h wt p t n ws [] = refl
halted_passes s ns h wt p t n ws (word ∷ rest) = halted_passes s ns h wt p t n (ws ++ word ∷ []) rest

abbrev pub top : Shape
top = (built stow_app).top

abbrev pub names : Names
names = names_of (built stow_app)

abbrev pub start : Walk
start = walk_from nothing_held

pub more : (s : Shape) (ns : Names) (w after : Walk) (word : Text) (rest : List Text) → turn_passes s ns w word ≡ true → walked s.rules ns w word ≡ after → walk_passes s ns after rest ≡ true → walk_passes s ns w (word ∷ rest) ≡ true
unfolding walk_passes
more s ns w after word rest t e h = and_from _ _ t (rw e h)

pub none : (s : Shape) (ns : Names) (w : Walk) → walk_passes s ns w [] ≡ true
unfolding walk_passes
none s ns w = refl

pub split_plain : (t : Text) → is_plain t ≡ true → (x : ℕ) × (xs : Text) × (t ≡ x ∷ xs) × (eqb x 45 ≡ false)
split_plain [] h = absurd (both_ways false refl h)
split_plain (x ∷ xs) h = (x, xs, refl, not-true _ h)
