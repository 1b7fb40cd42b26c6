-- The bookings of the made ship: 120 containers over six calls, drawn by chance.
use Rattle.std.specs.Prelude.{ℕ, ◌+◌, codes, List, [], ◌++◌, zero, suc}
use Rattle.stow_gen.specs.declared.draws.Lot.{Lot}
use Rattle.stow_gen.specs.Words.{raw, told, seven_digits, only_if}
use Rattle.stow_gen.specs.Draws.{after_lot, lot}

unfoldable pub voyage_text : List ℕ
voyage_text = raw (codes "vessel = \"FEEDER\"\nvoyage = \"1\"\ndate = \"2601010000\"\n") ++ raw (codes "rotation = [\"PAAAA\", \"PBBBB\", \"PCCCC\", \"PDDDD\", \"PEEEE\", \"PFFFF\"]\n")

-- the calls of a container, and its weight
abbrev pub calls_text : Lot → List ℕ
calls_text l = told (codes "\"\nfrom = ") l.load ++ told (codes "\nto = ") l.dest

abbrev pub rest_text : Lot → List ℕ
rest_text l = told (codes "\ntype = \"42G1\"\nkg = ") l.kg ++ raw (codes "\n") ++ only_if l.cooled (codes "temperature = -18\n")

-- container k, from 1
abbrev pub container_text : ℕ → Lot → List ℕ
container_text k l = raw (codes "[[container]]\nid = \"GENU") ++ seven_digits k ++ calls_text l ++ rest_text l

-- so many containers, of which the first has this number, from this state on
unfoldable pub containers_text : ℕ → ℕ → ℕ → List ℕ
containers_text zero k state = []
containers_text (suc left) k state = container_text k (lot state) ++ containers_text left (k + 1) (after_lot state)

abbrev pub bookings_text : ℕ → List ℕ
bookings_text number = voyage_text ++ containers_text 120 1 number
