-- What the words order, from what was read of them.
use Rattle.std.proofs.Common.{◌≡◌, List, sym, ap, subst, ◌∙◌, inl, inr, ℕ}
use Rattle.std.specs.Prelude.{◌⊎◌, codes, Result, Ok, Err}
use Rattle.stow_io.specs.Outside.{Outside}
use Rattle.stow_words.specs.declared.order.Order.{Order}
use Rattle.stow_words.specs.declared.order.WordsNo.{WordsNo}
use Rattle.stow_words.specs.declared.order.WordsNo.TheVariants.{NotTaken, Workers, Budget, Number, Call, Count, NoMemory}
use Rattle.stow_words.specs.Orders.{Gives, ordered, AreFaulty}
use Rattle.stow_words.specs.Own.{own_order}
use Rattle.stow_words.specs.Plain.{IsPlainForm}
use Rattle.stow_cli.specs.declared.status.Status.{Status}
use Rattle.stow_cli.specs.declared.status.Status.TheVariants as status
use Rattle.stow_cli.specs.Ends.{OnlyPrints, Follows, Refuses, IsRun, words_line, words_status}
use Rattle.stow_cli.specs.Taken.{HasClapFault, OrdersOwn}

-- an order that was read is the one that is wanted
ok_is : (order : Order) (wanted : Result Order WordsNo) → Gives (Ok order) wanted → Ok order ≡ wanted
ok_is order wanted (inl m) = absurd cc
ok_is order wanted (inr e) = e

pub run_of_order : (order : Order) (wanted : Result Order WordsNo) (s : Status) (before now : Outside) → Gives (Ok order) wanted → Follows order s before now → IsRun wanted s before now
run_of_order order wanted s before now given follows = subst (λ (r : Result Order WordsNo). IsRun r s before now) (ok_is order wanted given) follows

same_no : (why m : WordsNo) → ◌≡◌ {A = Result Order WordsNo} (Err why) (Err m) → why ≡ m
same_no why m e = cc

refuses : (why : WordsNo) (s : Status) (before now : Outside) → s ≡ words_status why → OnlyPrints (words_line why) before now → Refuses why s before now
refuses NotTaken s before now e p = subst (λ (t : Status). Refuses NotTaken t before now) (sym e) p
refuses Workers s before now e p = subst (λ (t : Status). Refuses Workers t before now) (sym e) p
refuses Budget s before now e p = subst (λ (t : Status). Refuses Budget t before now) (sym e) p
refuses Number s before now e p = subst (λ (t : Status). Refuses Number t before now) (sym e) p
refuses Call s before now e p = subst (λ (t : Status). Refuses Call t before now) (sym e) p
refuses Count s before now e p = subst (λ (t : Status). Refuses Count t before now) (sym e) p
refuses NoMemory s before now e p = subst (λ (t : Status). Refuses NoMemory t before now) (sym e) p

lacks_memory : (wanted : Result Order WordsNo) (before now : Outside) → OnlyPrints (codes "memory\n") before now → IsRun wanted status.Memory before now
lacks_memory (Ok order) before now p = inr p
lacks_memory (Err why) before now p = p

memory_status : (why : WordsNo) (s : Status) → why ≡ NoMemory → s ≡ words_status why → s ≡ status.Memory
memory_status why s m e = e ∙ ap words_status m

pub run_of_no : (why : WordsNo) (wanted : Result Order WordsNo) (s : Status) (before now : Outside) → Gives (Err why) wanted → s ≡ words_status why → OnlyPrints (words_line why) before now → IsRun wanted s before now
run_of_no why wanted s before now (inr e) is p = subst (λ (r : Result Order WordsNo). IsRun r s before now) e (refuses why s before now is p)
run_of_no why wanted s before now (inl m) is p =
    let none = same_no why NoMemory m in
    subst (λ (t : Status). IsRun wanted t before now) (sym (memory_status why s none is)) (lacks_memory wanted before now (subst (λ (n : WordsNo). OnlyPrints (words_line n) before now) none p))

pub fault_of_order : (words : List (List ℕ)) (order : Order) (s : Status) → Gives (Ok order) (ordered words) → HasClapFault words s
fault_of_order words order s given is refused = let e : ◌≡◌ {A = Result Order WordsNo} (Ok order) (Err NotTaken) = ok_is order (ordered words) given ∙ refused in cc

pub fault_of_no : (words : List (List ℕ)) (why : WordsNo) (s : Status) → Gives (Err why) (ordered words) → s ≡ words_status why → (◌≡◌ {A = Result Order WordsNo} (Err why) (Err NotTaken) → AreFaulty words) → HasClapFault words s
fault_of_no words why s (inl m) e faulty is refused = let bad : status.Words ≡ status.Memory = sym is ∙ memory_status why s (same_no why NoMemory m) e in cc
fault_of_no words why s (inr h) e faulty is refused = faulty (h ∙ refused)

pub own_of_order : (words : List (List ℕ)) (order : Order) (s : Status) → Gives (Ok order) (ordered words) → ((form : IsPlainForm words) → Gives (Ok order) (own_order words form)) → OrdersOwn words s
own_of_order words order s given own form = inr (sym (ok_is order (ordered words) given) ∙ ok_is order (own_order words form) (own form))

own_no : (words : List (List ℕ)) (why : WordsNo) (s : Status) (wanted : Result Order WordsNo) → Gives (Err why) (ordered words) → s ≡ words_status why → Gives (Err why) wanted → (s ≡ status.Memory) ⊎ (ordered words ≡ wanted)
own_no words why s wanted (inl m) e k = inl (memory_status why s (same_no why NoMemory m) e)
own_no words why s wanted (inr h) e (inl m) = inl (memory_status why s (same_no why NoMemory m) e)
own_no words why s wanted (inr h) e (inr k) = inr (sym h ∙ k)

pub own_of_no : (words : List (List ℕ)) (why : WordsNo) (s : Status) → Gives (Err why) (ordered words) → s ≡ words_status why → ((form : IsPlainForm words) → Gives (Err why) (own_order words form)) → OrdersOwn words s
own_of_no words why s given e own form = own_no words why s (own_order words form) given e (own form)
