-- Queues that are all empty.
use Rattle.std.proofs.Common.{◌≡◌, ℕ, zero, suc, List, [], ◌∷◌, refl, sym, ◌∙◌, ap, get_or}
use Rattle.std.specs.Prelude.{Some, None, option_map, replicate}
use Rattle.ptk_words.proofs.Lists.{none_distinct}
use Rattle.ptk_threads.specs.declared.link.Link.{Link}
use Rattle.ptk_threads.specs.Links.{link_in, no_link, no_ends, place_of, AreQueues, queues}

all_same : {X : Type 0} (n i : ℕ) (x : X) → get_or (replicate n x) i x ≡ x
all_same zero i x = refl
all_same (suc n) zero x = refl
all_same (suc n) (suc i) x = all_same n i x

link_none : (n k : ℕ) → link_in (replicate n no_link) k ≡ no_link
link_none n zero = refl
link_none n (suc i) = all_same n i no_link

pub empty_queues : (n m : ℕ) → AreQueues (replicate n no_link) (replicate m no_ends)
empty_queues n m =
    let links = replicate n no_link in
    record {
      each = λ i. rw (all_same m i no_ends) (record { along = tt; distinct = none_distinct; first = refl; last = refl });
      marked = λ k i h. (let no : None ≡ Some i = sym (ap (λ (l : Link). option_map place_of l.queue) (link_none n k)) ∙ h in absurd (cc));
      unmarked = λ k h. link_none n k;
    }

pub empty_lists : (links : List Link) (m : ℕ) → queues links (replicate m no_ends) ≡ replicate m []
empty_lists links zero = refl
empty_lists links (suc m) = ap (λ l. [] ∷ l) (empty_lists links m)
