-- The pictures, and the page behind them.
use Rattle.std.proofs.Common.{◌≡◌, ℕ, ◌+◌, List, [], ◌∷◌, ◌++◌, Some, None, refl, ap, sym, ◌∙◌}
use Rattle.std.proofs.lemmas.List.{append-nil}
use Rattle.stow_io.specs.declared.files.NamedFile.{NamedFile}
use Rattle.bay_views.specs.Upto.{upto}
use Rattle.bay_views.proofs.Uptos.{upto_more}
use Rattle.picture_files.specs.declared.reading.View.{View}
use Rattle.picture_files.specs.Work.{file_at, HasPages}

pub files_more : (ports : List (List ℕ)) (views : List View) (files : List NamedFile) (file : NamedFile) (i : ℕ) → file ∷ [] ≡ file_at ports views i → files ≡ upto (file_at ports views) i → files ++ file ∷ [] ≡ upto (file_at ports views) (i + 1)
files_more ports views files file i is so =
    ap (λ (fs : List NamedFile). fs ++ file ∷ []) so
    ∙ ap (λ (fs : List NamedFile). upto (file_at ports views) i ++ fs) is
    ∙ sym (upto_more (file_at ports views) i)

pub with_page : (page : List ℕ) (files : List NamedFile) (file : NamedFile) → file.name ≡ page → HasPages (Some page) files (files ++ file ∷ [])
with_page page files file is = record {
  pages = file ∷ [];
  files = refl;
  named = ap (λ (name : List ℕ). name ∷ []) is;
}

pub without_page : (files : List NamedFile) → HasPages None files files
without_page files = record {
  pages = [];
  files = sym (append-nil files);
  named = refl;
}
