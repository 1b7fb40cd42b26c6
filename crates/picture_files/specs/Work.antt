-- What is written and printed for the bay plans.
use Rattle.std.specs.Prelude.{◌≡◌, ℕ, Bool, ◌+◌, codes, List, [], ◌∷◌, ◌++◌, length, take, drop, reverse, find, map, fold, flat_map, slice_get, option_to_list, All, Option, Some, None, if◌then◌else◌}
use Rattle.stow_report.specs.Listings.{AreListable}
use Rattle.baplie.specs.declared.parts.CellGroup.{CellGroup}
use Rattle.bay_views.specs.Heads.{same_voyage}
use Rattle.bay_views.specs.Ports.{with_ports}
use Rattle.bay_views.specs.Upto.{upto}
use Rattle.bay_views.specs.Drawings.{picture}
use Rattle.picture_files.specs.Asked.{picture_name}
use Rattle.picture_files.specs.declared.reading.View.{View}
use Rattle.stow_io.specs.declared.files.NamedFile.{NamedFile}
use Rattle.stow_io.specs.declared.files.Work.{Work}

abbrev pub AreDrawable : List View → Type 0
AreDrawable views = All (λ v. AreListable v.message.groups) views

-- the ports of discharge of all bay plans, in the order in which they first come
abbrev pub ports_of : List View → List (List ℕ)
ports_of views = fold (λ ports v. with_ports ports v.message.groups) [] views

-- of one voyage
abbrev pub is_beside : View → View → Bool
is_beside v other = same_voyage v.message other.message

-- the last bay plan of a voyage before a place, whichever other ones stand between
abbrev pub view_before : List View → View → ℕ → Option View
view_before views v i = find (is_beside v) (reverse (take i views))

-- the first one of it behind the place
abbrev pub view_after : List View → View → ℕ → Option View
view_after views v i = find (is_beside v) (drop (i + 1) views)

abbrev pub groups_in : Option View → Option (List CellGroup)
groups_in None = None
groups_in (Some v) = Some v.message.groups

-- the picture of a bay plan, beside the one of its voyage before it and the one behind it
abbrev pub file_of : List (List ℕ) → View → Option View → Option View → NamedFile
file_of ports v before after = record { name = picture_name v.name; bytes = picture ports v.message (groups_in before) (groups_in after) }

abbrev pub file_in : List (List ℕ) → List View → ℕ → Option View → List NamedFile
file_in ports views i None = []
file_in ports views i (Some v) = file_of ports v (view_before views v i) (view_after views v i) ∷ []

unfoldable pub file_at : List (List ℕ) → List View → ℕ → List NamedFile
file_at ports views i = file_in ports views i (slice_get views i)

-- a picture for each bay plan
abbrev pub files_of : List (List ℕ) → List View → List NamedFile
files_of ports views = upto (file_at ports views) (length views)

abbrev pub line_of : NamedFile → List ℕ
line_of file = codes "written " ++ file.name ++ 10 ∷ []

abbrev pub report_of : List NamedFile → List ℕ
report_of files = flat_map line_of files

-- these files, then the page of this name, where there is one
pub record HasPages (page : Option (List ℕ)) (before now : List NamedFile) : Type 0 where
  pub pages : List NamedFile
  pub files : now ≡ before ++ pages
  pub named : map (λ file. file.name) pages ≡ option_to_list page

-- the pictures, then the page, and a line for each of them
pub record IsWorkOf (views : List View) (page : Option (List ℕ)) (work : Work) : Type 0 where
  pub files : HasPages page (files_of (ports_of views) views) work.files
  pub report : work.report ≡ report_of work.files
