-- The text of the bookings is parsed.
use Rattle.std.proofs.Common.{◌≡◌, ℕ, zero, suc, ◌+◌, Bool, true, false, [], ◌++◌, Some, refl, sym, ap, ◌∙◌, arith}
use Rattle.std.specs.Prelude.{codes}
use Rattle.toml_writer.specs.Text.{key_text}
use Rattle.toml.specs.Parse.{parse_document}
use Rattle.toml.proofs.ReadLines.{AllPrinted}
use Rattle.stow_gen.specs.Words.{raw}
use Rattle.stow_gen.specs.Draws.{after_lot, lot}
use Rattle.stow_gen.specs.Bookings.{voyage_text, containers_text, container_text}
use Rattle.stow_gen.proofs.Lines.{text_line}
use Rattle.stow_gen.proofs.PlainStrings.{plain_string}
use Rattle.stow_gen.proofs.ContainerLines.{lines_of, container_bare}
use Rattle.stow_gen.proofs.LineTables.{voyage_lines, all_lines, lot_lines, top, items_from, bookings_run}
use Rattle.stow_gen.proofs.BareLines.{Bare, Bare-append, AllPrinted-append, bare_document}
use Rattle.stow_gen.proofs.DrawnRanges.{lot_in_range}

lot_bare : (k state : ℕ) → Bare (lot_lines k (lot state)) (container_text k (lot state))
lot_bare k state =
    let l = lot state in
    let r = lot_in_range state in
    container_bare k l.load l.dest l.kg l.cooled (omega (arith, r.load_to)) (omega (arith, r.dest_to)) (omega (arith, r.kg_to))

all_bare : (left k state : ℕ) → Bare (all_lines left k state) (containers_text left k state)
unfolding containers_text
all_bare zero k state = refl
all_bare (suc left) k state = Bare-append (lot_lines k (lot state)) _ (container_text k (lot state)) _ (lot_bare k state) (all_bare left (k + 1) (after_lot state))

printed : (k load dest kg : ℕ) (cooled : Bool) → AllPrinted (lines_of k load dest kg cooled)
printed k load dest kg true = (omega arith, ((refl, omega arith, refl), ((refl, omega arith, refl), ((refl, omega arith, refl), ((refl, omega arith, refl), ((refl, omega arith, refl), ((refl, omega arith, refl), tt)))))))
printed k load dest kg false = (omega arith, ((refl, omega arith, refl), ((refl, omega arith, refl), ((refl, omega arith, refl), ((refl, omega arith, refl), ((refl, omega arith, refl), tt))))))

all_printed : (left k state : ℕ) → AllPrinted (all_lines left k state)
all_printed zero k state = tt
all_printed (suc left) k state = let l = lot state in AllPrinted-append (lot_lines k l) _ (printed k l.load l.dest l.kg l.cooled) (all_printed left (k + 1) (after_lot state))

-- the lines before the containers, of which the last has the six ports
voyage_bare : Bare voyage_lines voyage_text
unfolding voyage_text raw key_text
voyage_bare = (
  _,
  _,
  refl,
  text_line (codes "vessel") (codes "vessel") (codes "FEEDER") refl refl,
  (
    _,
    _,
    refl,
    text_line (codes "voyage") (codes "voyage") (codes "1") refl refl,
    (
      _,
      _,
      refl,
      text_line (codes "date") (codes "date") (codes "2601010000") refl refl,
      (
        codes "rotation = [\"PAAAA\", \"PBBBB\", \"PCCCC\", \"PDDDD\", \"PEEEE\", \"PFFFF\"]\n",
        [],
        refl,
        (
          codes "[\"PAAAA\", \"PBBBB\", \"PCCCC\", \"PDDDD\", \"PEEEE\", \"PFFFF\"]",
          refl,
          (
            codes "\"PAAAA\", \"PBBBB\", \"PCCCC\", \"PDDDD\", \"PEEEE\", \"PFFFF\"]",
            refl,
            (
              codes "\"PAAAA\"",
              _,
              refl,
              sym (plain_string (codes "PAAAA") refl),
              (
                codes "\"PBBBB\"",
                _,
                refl,
                sym (plain_string (codes "PBBBB") refl),
                (
                  codes "\"PCCCC\"",
                  _,
                  refl,
                  sym (plain_string (codes "PCCCC") refl),
                  (
                    codes "\"PDDDD\"",
                    _,
                    refl,
                    sym (plain_string (codes "PDDDD") refl),
                    (
                      codes "\"PEEEE\"",
                      _,
                      refl,
                      sym (plain_string (codes "PEEEE") refl),
                      (codes "\"PFFFF\"", codes "]", refl, sym (plain_string (codes "PFFFF") refl), refl),
                    ),
                  ),
                ),
              ),
            ),
          ),
        ),
        refl,
      ),
    ),
  ),
)

-- the bookings of one container or more
pub parsed : (left k state : ℕ) → parse_document (voyage_text ++ containers_text (suc left) k state) ≡ Some (top (items_from (suc left) k state))
unfolding voyage_text raw
parsed left k state =
    let (doc, ran, same) = bookings_run left k state in
    let es = voyage_lines ++ all_lines (suc left) k state in
    let bare : Bare es (voyage_text ++ containers_text (suc left) k state) = Bare-append voyage_lines (all_lines (suc left) k state) voyage_text _ voyage_bare (all_bare (suc left) k state) in
    let ok : AllPrinted es = ((refl, omega arith, refl), ((refl, omega arith, refl), ((refl, omega arith, refl), ((refl, omega arith, refl), all_printed (suc left) k state)))) in
    bare_document es _ doc bare ok refl ran ∙ ap (λ ms. Some ms) same
