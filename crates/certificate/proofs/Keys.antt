-- The keys, their texts and their table.
use Rattle.std.proofs.Common.{◌≡◌, ◌<◌, ◌+◌, ◌*◌, ℕ, List, [], ◌∷◌, refl, sym, ◌∙◌, ap, arith, true, Some, get_or}
use Rattle.std.specs.Prelude.{slice_get, ◌==◌, nat_le, if◌then◌else◌}
use Rattle.std.proofs.lemmas.Option.{get_or_from_slice_get}
use Rattle.certificate.specs.declared.words.Key.{Key}
use Rattle.certificate.specs.declared.words.Key.TheVariants as key
use Rattle.certificate.specs.Reading.{key_text}
use Rattle.certificate.specs.declared.words.TheConstants.{KEYS}

-- the place of a key in the table
abbrev pub place_of : Key → ℕ
place_of key.Step = 0
place_of key.Raise = 1
place_of key.Node = 2
place_of key.Leaf = 3
place_of key.Branch = 4
place_of key.Left = 5
place_of key.Cross = 6
place_of key.Block = 7
place_of key.Support = 8
place_of key.Cell = 9
place_of key.Flow = 10
place_of key.Weight = 11
place_of key.Hatch = 12
place_of key.Twenty = 13
place_of key.Apart = 14
place_of key.Start = 15
place_of key.Title = 16
place_of key.Outcome = 17
place_of key.Rehandles = 18
place_of key.Bound = 19
place_of key.Nodes = 20
place_of key.End = 21
place_of key.None = 22
place_of key.Optimal = 23
place_of key.Gap = 24
place_of key.NoPlan = 25
place_of key.Undecided = 26

pub stands : (k : Key) → slice_get KEYS (place_of k) ≡ Some k
stands key.Step = refl
stands key.Raise = refl
stands key.Node = refl
stands key.Leaf = refl
stands key.Branch = refl
stands key.Left = refl
stands key.Cross = refl
stands key.Block = refl
stands key.Support = refl
stands key.Cell = refl
stands key.Flow = refl
stands key.Weight = refl
stands key.Hatch = refl
stands key.Twenty = refl
stands key.Apart = refl
stands key.Start = refl
stands key.Title = refl
stands key.Outcome = refl
stands key.Rehandles = refl
stands key.Bound = refl
stands key.Nodes = refl
stands key.End = refl
stands key.None = refl
stands key.Optimal = refl
stands key.Gap = refl
stands key.NoPlan = refl
stands key.Undecided = refl

pub within : (k : Key) → place_of k < 27
within key.Step = omega arith
within key.Raise = omega arith
within key.Node = omega arith
within key.Leaf = omega arith
within key.Branch = omega arith
within key.Left = omega arith
within key.Cross = omega arith
within key.Block = omega arith
within key.Support = omega arith
within key.Cell = omega arith
within key.Flow = omega arith
within key.Weight = omega arith
within key.Hatch = omega arith
within key.Twenty = omega arith
within key.Apart = omega arith
within key.Start = omega arith
within key.Title = omega arith
within key.Outcome = omega arith
within key.Rehandles = omega arith
within key.Bound = omega arith
within key.Nodes = omega arith
within key.End = omega arith
within key.None = omega arith
within key.Optimal = omega arith
within key.Gap = omega arith
within key.NoPlan = omega arith
within key.Undecided = omega arith

-- what stands in a table of keys
pub written_there : (keys : List Key) (j i : ℕ) (k d : Key) (word : List ℕ) → j ≡ i → slice_get keys j ≡ Some k → key_text k ≡ word → key_text (get_or keys i d) ≡ word
written_there keys j i k d word is at same = ap key_text (get_or_from_slice_get keys i k d (ap (slice_get keys) (sym is) ∙ at)) ∙ same

-- ## Texts tell keys apart

abbrev mark : List ℕ → ℕ
mark [] = 0
mark (b ∷ bs) = b + 2 * mark bs

-- the key with this mark
abbrev marked : ℕ → Key
marked n = if n == 115 then key.Step else (if n == 114 then key.Raise else (if n == 110 then key.Node else (if n == 108 then key.Leaf else (if n == 98 then key.Branch else (if n == 111 then key.Left else (if n == 3531 then key.Cross else (if n == 3262 then key.Block else (if n == 14541 then key.Support else (if n == 1597 then key.Cell else (if n == 1714 then key.Flow else (if n == 6941 then key.Weight else (if n == 3218 then key.Hatch else (if n == 7366 then key.Twenty else (if n == 3477 then key.Apart else (if n == 3503 then key.Start else (if n == 56383 then key.Title else (if n == 13329 then key.Outcome else (if n == 55748 then key.Rehandles else (if n == 3268 then key.Bound else (if n == 3380 then key.Nodes else (if n == 721 then key.End else (if n == 1580 then key.None else (if n == 13399 then key.Optimal else (if n == 745 then key.Gap else (if n == 13280 then key.NoPlan else (key.Undecided))))))))))))))))))))))))))

marked_as : (k : Key) → k ≡ marked (mark (key_text k))
marked_as key.Step = refl
marked_as key.Raise = refl
marked_as key.Node = refl
marked_as key.Leaf = refl
marked_as key.Branch = refl
marked_as key.Left = refl
marked_as key.Cross = refl
marked_as key.Block = refl
marked_as key.Support = refl
marked_as key.Cell = refl
marked_as key.Flow = refl
marked_as key.Weight = refl
marked_as key.Hatch = refl
marked_as key.Twenty = refl
marked_as key.Apart = refl
marked_as key.Start = refl
marked_as key.Title = refl
marked_as key.Outcome = refl
marked_as key.Rehandles = refl
marked_as key.Bound = refl
marked_as key.Nodes = refl
marked_as key.End = refl
marked_as key.None = refl
marked_as key.Optimal = refl
marked_as key.Gap = refl
marked_as key.NoPlan = refl
marked_as key.Undecided = refl

pub same_key : (k m : Key) → key_text k ≡ key_text m → k ≡ m
same_key k m e = marked_as k ∙ ap (λ (w : List ℕ). marked (mark w)) e ∙ sym (marked_as m)

-- a key begins with a letter
pub begins : (k : Key) → nat_le 97 (get_or (key_text k) 0 0) ≡ true
begins key.Step = refl
begins key.Raise = refl
begins key.Node = refl
begins key.Leaf = refl
begins key.Branch = refl
begins key.Left = refl
begins key.Cross = refl
begins key.Block = refl
begins key.Support = refl
begins key.Cell = refl
begins key.Flow = refl
begins key.Weight = refl
begins key.Hatch = refl
begins key.Twenty = refl
begins key.Apart = refl
begins key.Start = refl
begins key.Title = refl
begins key.Outcome = refl
begins key.Rehandles = refl
begins key.Bound = refl
begins key.Nodes = refl
begins key.End = refl
begins key.None = refl
begins key.Optimal = refl
begins key.Gap = refl
begins key.NoPlan = refl
begins key.Undecided = refl
