-- The profile's text with its numerals spelled out.
use Rattle.std.proofs.Common.{◌≡◌, ℕ, List, [], ◌∷◌, ◌++◌, refl, decimal}
use Rattle.std.specs.Prelude.{codes, flat_map}
use Rattle.stow_gen.specs.Words.{raw}
use Rattle.stow_gen.specs.Profile.{profile_text, pairs_text, stack_text, bay_text, stacks_text, cover_text, in_hold, on_deck, bays}
use Rattle.stow_gen.proofs.Numerals.{one, two, three, four, six, ten, fourteen}

-- ## Each part with its numerals

-- a stack, by the numerals of its bay and its row
abbrev pub spelled_stack : List ℕ → List ℕ → List ℕ → List ℕ
spelled_stack rest bay row = (codes "[[stack]]\nbay = " ++ bay) ++ (codes "\nrow = " ++ row) ++ rest

-- the four stacks of a bay
abbrev pub spelled_bay : List ℕ → List ℕ → List ℕ
spelled_bay rest bay = flat_map (spelled_stack rest bay) (codes "1" ∷ codes "2" ∷ codes "3" ∷ codes "4" ∷ [])

-- the numerals of the bays
abbrev pub spelled_bays : List (List ℕ)
spelled_bays = codes "2" ∷ codes "6" ∷ codes "10" ∷ codes "14" ∷ []

-- the stacks of all bays
abbrev pub spelled_stacks : List ℕ → List ℕ
spelled_stacks rest = flat_map (spelled_bay rest) spelled_bays

-- the four rows of a bay, as pairs
abbrev pub spelled_pairs : List ℕ → List ℕ
spelled_pairs bay = (codes "[[" ++ bay) ++ (codes ", 1], [" ++ bay) ++ (codes ", 2], [" ++ bay) ++ (codes ", 3], [" ++ bay) ++ codes ", 4]]"

-- the cover of a bay
abbrev pub spelled_cover : List ℕ → List ℕ
spelled_cover bay = codes "[[cover]]\nunder = " ++ spelled_pairs bay ++ codes "\non = " ++ spelled_pairs bay ++ codes "\n"

-- the whole text
abbrev pub spelled_profile : List ℕ
spelled_profile = codes "name = \"FEEDER\"\nweight_step = 5000\n" ++ spelled_stacks in_hold ++ spelled_stacks on_deck ++ flat_map spelled_cover spelled_bays

-- ## They are the same

stack_is : (rest : List ℕ) (bay row : ℕ) (b r : List ℕ) → decimal bay ≡ b → decimal row ≡ r → stack_text rest bay row ≡ spelled_stack rest b r
unfolding raw
stack_is rest bay row b r p q = λ i. (codes "[[stack]]\nbay = " ++ p i) ++ (codes "\nrow = " ++ q i) ++ rest

-- one text for each of four numbers
four_are : (f : ℕ → List ℕ) (g : List ℕ → List ℕ) (a b c d : ℕ) (s t u v : List ℕ) → f a ≡ g s → f b ≡ g t → f c ≡ g u → f d ≡ g v → flat_map f (a ∷ b ∷ c ∷ d ∷ []) ≡ flat_map g (s ∷ t ∷ u ∷ v ∷ [])
four_are f g a b c d s t u v p q r x = rw (p, q, r, x) refl

bay_is : (rest : List ℕ) (bay : ℕ) (b : List ℕ) → decimal bay ≡ b → bay_text rest bay ≡ spelled_bay rest b
bay_is rest bay b p = four_are (stack_text rest bay) (spelled_stack rest b) 1 2 3 4 (codes "1") (codes "2") (codes "3") (codes "4") (stack_is rest bay 1 b (codes "1") p one) (stack_is rest bay 2 b (codes "2") p two) (stack_is rest bay 3 b (codes "3") p three) (stack_is rest bay 4 b (codes "4") p four)

stacks_are : (rest : List ℕ) → stacks_text rest ≡ spelled_stacks rest
stacks_are rest = four_are (bay_text rest) (spelled_bay rest) 2 6 10 14 (codes "2") (codes "6") (codes "10") (codes "14") (bay_is rest 2 (codes "2") two) (bay_is rest 6 (codes "6") six) (bay_is rest 10 (codes "10") ten) (bay_is rest 14 (codes "14") fourteen)

pairs_are : (bay : ℕ) (b : List ℕ) → decimal bay ≡ b → pairs_text bay ≡ spelled_pairs b
unfolding raw pairs_text
pairs_are bay b p = λ i. (codes "[[" ++ p i) ++ (codes ", 1], [" ++ p i) ++ (codes ", 2], [" ++ p i) ++ (codes ", 3], [" ++ p i) ++ codes ", 4]]"

cover_is : (bay : ℕ) (b : List ℕ) → decimal bay ≡ b → cover_text bay ≡ spelled_cover b
unfolding raw
cover_is bay b p = λ i. codes "[[cover]]\nunder = " ++ pairs_are bay b p i ++ codes "\non = " ++ pairs_are bay b p i ++ codes "\n"

covers_are : flat_map cover_text bays ≡ flat_map spelled_cover spelled_bays
covers_are = four_are cover_text spelled_cover 2 6 10 14 (codes "2") (codes "6") (codes "10") (codes "14") (cover_is 2 (codes "2") two) (cover_is 6 (codes "6") six) (cover_is 10 (codes "10") ten) (cover_is 14 (codes "14") fourteen)

pub profile_is_spelled : profile_text ≡ spelled_profile
unfolding profile_text raw
profile_is_spelled = λ i. codes "name = \"FEEDER\"\nweight_step = 5000\n" ++ stacks_are in_hold i ++ stacks_are on_deck i ++ covers_are i
