-- What a read gives, and the list of the bay plans that were read.
use Rattle.std.proofs.Common.{◌≡◌, ℕ, ◌+◌, ◌<◌, List, [], ◌∷◌, ◌++◌, length, get_or, take, map, ◌≤◌, Option, Some, None, ap, sym, ◌∙◌, inl, inr, arith}
use Rattle.std.proofs.lemmas.List.{map-append, take_more}
use Rattle.std.specs.Prelude.{IfSome}
use Rattle.stow_io.specs.Files.{Files}
use Rattle.stow_io.specs.Causes.{Rose}
use Rattle.stow_io.specs.declared.files.Work.{Work}
use Rattle.baplie.specs.declared.parts.Message.{Message}
use Rattle.picture_files.specs.declared.reading.View.{View}
use Rattle.picture_files.specs.declared.reading.Stop.{Stop}
use Rattle.picture_files.specs.declared.reading.Stop.TheVariants as stop
use Rattle.picture_files.specs.Reading.{IsContent, IsPlan, IsViewOf, IsFree, IsGuarded, IsStop}
use Rattle.picture_files.specs.Ends.{IsPaged}

pub view_of : (files : Option Files) (asked bytes told : List ℕ) (v : View) (message : Message) → v ≡ record { name = asked; message = message } → told ≡ bytes → IsContent files asked bytes → IsPlan told message → IsViewOf files v
view_of files asked bytes told v message is t content plan = rw is (record {
  bytes = bytes;
  content = content;
  plan = rw (← t) plan;
})

pub view_name : (v : View) (asked : List ℕ) (message : Message) → v ≡ record { name = asked; message = message } → v.name ≡ asked
view_name v asked message is = ap (λ (x : View). x.name) is

pub names_more : (views : List View) (v : View) (names : List (List ℕ)) (i : ℕ) (name : List ℕ) → i < length names → name ≡ get_or names i name → v.name ≡ name → map (λ (x : View). x.name) views ≡ take i names → map (λ (x : View). x.name) (views ++ v ∷ []) ≡ take (i + 1) names
names_more views v names i name lt at is so =
    map-append (λ (x : View). x.name) views (v ∷ [])
    ∙ ap (λ (ns : List (List ℕ)). ns ++ v.name ∷ []) so
    ∙ ap (λ (n : List ℕ). take i names ++ n ∷ []) (is ∙ at)
    ∙ sym (take_more names i name lt)

-- why no page may be written is why there are no pictures
pub guarded_stop : (files : Option Files) (cause : Type 0) (names : List ℕ → Type 0) (no : Stop) → IsGuarded files no → IsStop files cause names no
guarded_stop files cause names (stop.Refused line) p = absurd p
guarded_stop files cause names (stop.Failed name) p = absurd p
guarded_stop files cause names (stop.Kept page) p = p
guarded_stop files cause names stop.NoMemory p = p

rose_from : (a b c : ℕ) → a ≤ b → Rose b c → Rose a c
rose_from a b c le rose = omega arith

free_from : (files : Option Files) (a b c : ℕ) (page : List ℕ) → a ≤ b → IsFree files (Rose b c) page → IsFree files (Rose a c) page
free_from files a b c page le (inl rose) = inl (rose_from a b c le rose)
free_from files a b c page le (inr own) = inr own

page_from : (files : Option Files) (a b c : ℕ) (page : Option (List ℕ)) → a ≤ b → IfSome page (IsFree files (Rose b c)) → IfSome page (IsFree files (Rose a c))
page_from files a b c None le free = free
page_from files a b c (Some page) le free = free_from files a b c page le free

-- a page that may be written behind the reads may be written
pub paged_from : (files : Option Files) (a b c : ℕ) (names : List (List ℕ)) (views : List View) (work : Work) → a ≤ b → IsPaged files (Rose b c) names views work → IsPaged files (Rose a c) names views work
paged_from files a b c names views work le p = record {
  page = p.page;
  several = p.several;
  free = page_from files a b c p.page le p.free;
  work_is = p.work_is;
}
