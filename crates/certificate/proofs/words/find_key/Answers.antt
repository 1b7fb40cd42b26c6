use Rattle.std.proofs.Common.{rules, ◌≡◌, ◌≢◌, ◌<◌, ℕ, List, length, get_or, subst, refl, ap, ◌∙◌, Iter, arith, MatchOption, None, Some}
use Rattle.std.specs.Prelude.{Option}
use Rattle.std.specs.List.{AllWithin, HoldsAt}
use Rattle.std.proofs.lemmas.Iterator.{first_from_find, YieldsList-from_slice}
use Rattle.std.proofs.lemmas.Iterator.Consumers.{YieldsList-from_copied}
use Rattle.std.proofs.lemmas.Option.{get_or_from_slice_get}
use Rattle.certificate.specs.declared.words.Key.{Key}
use Rattle.certificate.specs.declared.words.TheConstants.{KEYS}
use Rattle.certificate.specs.Reading.{key_text}
use Rattle.certificate.proofs.Keys.{place_of, stands, within}
use Rattle.certificate.proofs.words.find_key.Goals as goal

-- each key is one of the list
told : (word : List ℕ) (found : Option Key) (P : Key → Type 0) → ((k : Key) → P k → key_text k ≡ word) → MatchOption found (AllWithin (λ k. key_text k ≢ word) KEYS 0 (length KEYS)) P
    → MatchOption found ((k : Key) → key_text k ≢ word) (λ k. key_text k ≡ word)
told word None P passes h = λ k. subst (λ j. key_text j ≢ word) (get_or_from_slice_get KEYS (place_of k) k k (stands k)) (h (place_of k) k (omega arith) (omega (arith, within k)))
told word (Some k) P passes h = passes k h

pub returns : goal.returns
returns c = told c.args.word.now c.find.result _ (λ k h. h.0)
    (first_from_find _ _ c.find.result (λ k. key_text k ≡ c.args.word.now) (λ k. key_text k ≢ c.args.word.now) c.find.ensures.ran (YieldsList-from_copied (YieldsList-from_slice KEYS (ap (λ (i : Iter Key). i.rest.now) c.copied.ensures.source ∙ (c.iter.ensures.rest ∙ refl)))) (λ x q k. search rules) (λ x q k. search rules))
