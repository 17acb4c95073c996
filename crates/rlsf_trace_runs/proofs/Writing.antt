-- Writing a text piece by piece.
use Rattle.std.proofs.Common.{◌≡◌, ℕ, ◌-◌, List, [], ◌++◌, length, take, drop, Option, Some, None, sym, ap, ◌∙◌, append-nil, append_assoc, take-append-drop}
use Rattle.std.proofs.lemmas.List.{take_rest}
use Rattle.std.specs.Io.KnownBytes.{Appends}

-- nothing is appended yet
pub Appends-none : (a : Option (List ℕ)) → Appends a a []
Appends-none None = tt
Appends-none (Some x) = sym (append-nil x)

Appends-trans : (a b c : Option (List ℕ)) (bs cs : List ℕ) → Appends a b bs → Appends b c cs → Appends a c (bs ++ cs)
Appends-trans None b c bs cs first second = tt
Appends-trans (Some x) None c bs cs first second = absurd first
Appends-trans (Some x) (Some y) None bs cs first second = absurd second
Appends-trans (Some x) (Some y) (Some z) bs cs first second = second ∙ ap (λ l. l ++ cs) first ∙ append_assoc x bs cs

-- one more piece
pub Appends-more : (a b c : Option (List ℕ)) (text done rest : List ℕ) (taken : ℕ) → text ≡ done ++ rest → Appends a b done → Appends b c (take taken rest)
    → (x : List ℕ) × (text ≡ x ++ take (length rest - taken) (drop taken rest)) × Appends a c x
Appends-more a b c text done rest taken split so_far piece =
    let moved : text ≡ (done ++ take taken rest) ++ take (length rest - taken) (drop taken rest) =
    split ∙ ap (λ l. done ++ l) (sym (take-append-drop taken rest)) ∙ sym (append_assoc done (take taken rest) (drop taken rest))
    ∙ ap (λ l. (done ++ take taken rest) ++ l) (sym (take_rest rest taken)) in
    (done ++ take taken rest, moved, Appends-trans a b c done (take taken rest) so_far piece)
