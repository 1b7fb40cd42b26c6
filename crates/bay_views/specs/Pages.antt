-- The page that steps through several pictures (HTML 5).
use Rattle.std.specs.Prelude.{ℕ, ◌+◌, ◌-◌, ◌/◌, ◌%◌, ◌==◌, Bool, ◌||◌, ◌&&◌, nat_le, nat_lt, codes, List, [], ◌∷◌, ◌++◌, length, flat_map, slice_get, slice_index_or, nat_eq, Option, Some, None, if◌then◌else◌}
use Rattle.std.specs.Fmt.{decimal}
use Rattle.std.specs.List.{starts_with}
use Rattle.baplie.specs.Segments.{is_empty_text}
use Rattle.bay_views.specs.Escapes.{escaped_text}
use Rattle.bay_views.specs.Upto.{upto}
use Rattle.bay_views.specs.Marks.{raw, when}

-- ## References to files (RFC 3986)

-- letters, digits and `-` `.` `_` `~`
abbrev pub is_unreserved : ℕ → Bool
is_unreserved b = (nat_le 97 b && nat_le b 122) || ((nat_le 65 b && nat_le b 90) || ((nat_le 48 b && nat_le b 57) || (b == 45 || (b == 46 || (b == 95 || b == 126)))))

-- 0 to 9, then A to F
abbrev pub hex_digit : ℕ → ℕ
hex_digit n = if nat_lt n 10 then 48 + n else 55 + n

abbrev pub percent : ℕ → List ℕ
percent b = if is_unreserved b then b ∷ [] else 37 ∷ hex_digit (b / 16) ∷ hex_digit (b % 16) ∷ []

abbrev pub reference : List ℕ → List ℕ
reference name = flat_map percent name

-- ## The page

-- a step to another section
unfoldable pub step : ℕ → List ℕ → List ℕ
step i word = raw (codes "<a href='#c") ++ decimal i ++ raw (codes "'>") ++ raw word ++ raw (codes "</a> ")

-- the picture alone, and the picture
unfoldable pub links : List ℕ → List ℕ
links name =
    raw (codes "<a href='") ++ reference name ++ raw (codes ".svg'>") ++ escaped_text name ++ raw (codes "</a></p>\n<object type='image/svg+xml' data='") ++ reference name ++ raw (codes ".svg'></object>\n")

-- a bay of the picture, which is printed on a page of its own
unfoldable pub printed : List ℕ → ℕ → List ℕ
printed name i = raw (codes "<img class='b' alt='' src='") ++ reference name ++ raw (codes ".svg#v") ++ decimal i ++ raw (codes "'>\n")

unfoldable pub prints : List ℕ → ℕ → List ℕ
prints name bays = upto (printed name) bays

unfoldable pub section_front : ℕ → List ℕ
section_front i = raw (codes "<section id='c") ++ decimal i ++ raw (codes "'><p>")

unfoldable pub previous : ℕ → List ℕ
previous i = when (nat_lt 0 i) (step (i - 1) (codes "&lt; Previous"))

unfoldable pub counted : ℕ → ℕ → List ℕ
counted i many = raw (codes "<b>") ++ decimal (i + 1) ++ raw (codes " of ") ++ decimal many ++ raw (codes "</b> ")

unfoldable pub next : ℕ → ℕ → List ℕ
next i many = when (nat_lt (i + 1) many) (step (i + 1) (codes "Next &gt;"))

-- a section: its number, its name, the steps to the one before and the one behind, and the picture
abbrev pub section : ℕ → ℕ → List ℕ → List ℕ
section i many name =
    section_front i ++ previous i ++ counted i many ++ next i many ++ links name

abbrev pub section_in : ℕ → ℕ → Option (List ℕ) → ℕ → List ℕ
section_in i many None bays = []
section_in i many (Some name) bays = section i many name ++ prints name bays ++ raw (codes "</section>\n")

unfoldable pub section_of : List (List ℕ) → List ℕ → ℕ → List ℕ
section_of names bays i = section_in i (length names) (slice_get names i) (slice_index_or bays i 0)

-- the lines that each page of this program begins with
abbrev pub page_mark : List ℕ
page_mark = codes "<!DOCTYPE html>\n<!-- Written by stow-view, which writes it anew. -->\n"

-- such a page, or no bytes
abbrev pub is_own_page : List ℕ → Bool
is_own_page text = is_empty_text text || starts_with nat_eq text page_mark

abbrev pub page_head : List ℕ
page_head = codes "<html lang='en'><head><meta charset='utf-8'><title>Bay views</title>\n<style>body{font:14px sans-serif;margin:0 12px}section{min-height:100vh}p{margin:0;padding:8px 0}.b{display:none}@media print{p,object{display:none}.b{display:block;max-width:100%;max-height:95vh;page-break-after:always}}</style>\n"

-- the arrow keys step to the section before and to the one behind
abbrev pub page_keys : List ℕ
page_keys = codes "<script>document.onkeydown=function(e){var d=e.key=='ArrowRight'?1:e.key=='ArrowLeft'?-1:0,i=(parseInt(location.hash.slice(2))||0)+d;if(d&&document.getElementById('c'+i)){location.hash='c'+i;e.preventDefault()}}</script></head><body>\n"

unfoldable pub page_front : List ℕ
page_front = raw page_mark ++ raw page_head ++ raw page_keys

-- names, and how many bays each picture has
abbrev pub index_page : List (List ℕ) → List ℕ → List ℕ
index_page names bays = page_front ++ upto (section_of names bays) (length names) ++ raw (codes "</body></html>\n")
