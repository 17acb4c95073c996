-- A run of complete units of a block leaves as room that is aligned to 16, and comes back. Assumes `Logic`.
--     takes_units, puts_units, clash_units
use Rattle.std.proofs.Common.{◌≡◌, ℕ, zero, suc, ◌+◌, ◌-◌, ◌*◌, ◌<◌, ◌≤◌, Bool, false, true, List, [], ◌∷◌, length, refl, sym, ◌∙◌, arith}
use seplogic.Ra.Ura.{Ura}
use base.Logic.{ent, sep}
use base.Fml.{Fml, ftrue, froom}
use prog.Model.{Model}
use contract.Monad.{fact}
use types.Logic.{Logic, sem}
use types.Kit.{‵, ◌⊛◌, ◌$◌, ◌∵◌, !, qed, by, move, drop as skip', use0, use1, use2, split, fsplit, fjoin, rewrite, done}
use denote.Steps.{nothing}
use Rattle.rlsf_base.specs.Out.{Change, kept_at}
use Rattle.rlsf_base.specs.Changes.{IsOwn, AreBytesOut, left, came_raw}
use Rattle.rlsf_base.specs.Steps.Ownership.{bytes_ty, units_ty, held, ways_of, own_unit}
use Rattle.rlsf_base.proofs.RawBlock.Rows.{Around, room_out, goes, comes_raw, clash}
use Rattle.rlsf_base.proofs.Changes.{in_run-yes, in_run-before, in_run-behind, raw-own}
use Rattle.rlsf_base.proofs.RawBlock.Units.{parted, left-out, around-left, around-raw, none-own, unit-all, ways_all, ways_none, ways_part, ways_join}
use Rattle.rlsf_base.proofs.RawBlock.OpenedUnits.{ways, opened, closed}

module _ {M : Type 1} {𝓤 : Ura M} (𝓛 : Logic 𝓤) (b : ℕ) where
  ways_cut : (own : ℕ → Bool) (u w m n t o : ℕ) → w ≡ u + m → t ≡ m + n
      → ent 𝓤 (sem 𝓛 (ways_of own u t b o)) (sep 𝓤 (sem 𝓛 (ways_of own u m b o)) (sem 𝓛 (ways_of own w n b o)))
  ways_cut own u w zero n t o e f = let p : u ≡ w = omega (arith, e) in let q : t ≡ n = omega (arith, f) in
      qed 𝓛 (‵ (ways_of own u t b o) ∷ []) ∵ rewrite ! 0 (λ (k : ℕ × ℕ). ‵ (ways_of own k.0 k.1 b o)) {x = (w, n)} {y = (u, t)} (λ i. (p i, q i)) refl $ nothing !
      $ done !
  ways_cut own u w (suc m) n zero o e f = absurd (omega (arith, f))
  ways_cut own u w (suc m) n (suc t) o e f = qed 𝓛 (‵ (ways_of own u (suc t) b o) ∷ []) ∵ fsplit ! $ move ! (1 ∷ []) $
      use1 𝓛 (‵ (ways_of own (suc u) m b o) ⊛ ‵ (ways_of own w n b o)) (ways_cut own (suc u) w m n t o (omega (arith, e)) (omega (arith, f))) $ split ! $ move !
      (2 ∷ 0 ∷ []) $ fjoin ! $ done !

  ways_glue : (own : ℕ → Bool) (u w m n t o : ℕ) → w ≡ u + m → t ≡ m + n
      → ent 𝓤 (sep 𝓤 (sem 𝓛 (ways_of own u m b o)) (sem 𝓛 (ways_of own w n b o))) (sem 𝓛 (ways_of own u t b o))
  ways_glue own u w zero n t o e f = let p : w ≡ u = omega (arith, e) in let q : n ≡ t = omega (arith, f) in
      qed 𝓛 (‵ ftrue ∷ ‵ (ways_of own w n b o) ∷ []) ∵ skip' ! $ rewrite ! 0 (λ (k : ℕ × ℕ). ‵ (ways_of own k.0 k.1 b o)) {x = (u, t)} {y = (w, n)}
      (λ i. (p i, q i)) refl $ done !
  ways_glue own u w (suc m) n zero o e f = absurd (omega (arith, f))
  ways_glue own u w (suc m) n (suc t) o e f = qed 𝓛 (‵ (ways_of own u (suc m) b o) ∷ ‵ (ways_of own w n b o) ∷ []) ∵ fsplit ! $ move ! (1 ∷ 2 ∷ []) $
      use2 𝓛 (‵ (ways_of own (suc u) t b o)) (ways_glue own (suc u) w m n t o (omega (arith, e)) (omega (arith, f))) $ move ! (1 ∷ 0 ∷ []) $ fjoin ! $ done !

  -- n units from the j-th on, of N
  module _ (o N j n : ℕ) (to : j + n ≤ N) where
    abbrev run : ℕ → Bool
    run = own_unit [] (j * 16) (n * 16)

    abbrev behind : ℕ
    behind = N - (j + n)

    run-there : (v : ℕ) → j ≤ v → v < j + n → run v ≡ true
    run-there v lo hi = unit-all [] (j * 16) (n * 16) v (none-own 0 (n * 16)) ∙ in_run-yes (j * 16) (n * 16) (v * 16) (omega (arith, lo)) (omega (arith, hi))

    run-before : (v : ℕ) → v < j → run v ≡ false
    run-before v hi = unit-all [] (j * 16) (n * 16) v (none-own 0 (n * 16)) ∙ in_run-before (j * 16) (n * 16) (v * 16) (omega (arith, hi))

    run-behind : (v : ℕ) → j + n ≤ v → run v ≡ false
    run-behind v lo = unit-all [] (j * 16) (n * 16) v (none-own 0 (n * 16)) ∙ in_run-behind (j * 16) (n * 16) (v * 16) (omega (arith, lo))

    run_ways : ent 𝓤 (sem 𝓛 (ways_of run 0 N b o)) (sem 𝓛 (ways n b (j * 16 + o)))
    run_ways = qed 𝓛 (‵ (ways_of run 0 N b o) ∷ []) ∵
        use1 𝓛 (‵ (ways_of run 0 j b o) ⊛ ‵ (ways_of run j (n + behind) b o)) (ways_cut run 0 j j (n + behind) N o (omega arith) (omega (arith, to))) $ split ! $ skip' ! $
        use1 𝓛 (‵ (ways_of run j n b o) ⊛ ‵ (ways_of run (j + n) behind b o)) (ways_cut run j (j + n) n behind (n + behind) o refl refl) $ split ! $ move ! (1 ∷ []) $
        skip' ! $
        rewrite ! 0 (λ (F : Fml). ‵ F) (ways_all 𝓛 b run j n o (j * 16 + o) refl run-there) refl $ done !

    ways_run : ent 𝓤 (sem 𝓛 (ways n b (j * 16 + o))) (sem 𝓛 (ways_of run 0 N b o))
    ways_run = qed 𝓛 (‵ (ways n b (j * 16 + o)) ∷ []) ∵
        rewrite ! 0 (λ (F : Fml). ‵ F) (sym (ways_all 𝓛 b run j n o (j * 16 + o) refl run-there)) refl $
        use0 𝓛 (‵ (ways_of run (j + n) behind b o)) (ways_none 𝓛 b run (j + n) behind o (λ v lo hi. run-behind v lo)) $ move ! (1 ∷ 0 ∷ []) $
        use2 𝓛 (‵ (ways_of run j (n + behind) b o)) (ways_glue run j (j + n) n behind (n + behind) o refl refl) $
        use0 𝓛 (‵ (ways_of run 0 j b o)) (ways_none 𝓛 b run 0 j o (λ v lo hi. run-before v (omega (arith, hi)))) $
        use2 𝓛 (‵ (ways_of run 0 N b o)) (ways_glue run 0 j j (n + behind) N o (omega arith) (omega (arith, to))) $ done !

    -- of the bytes xs from the place skip on
    module _ (cs : List Change) (skip : ℕ) (xs : List ℕ) (from : skip ≤ j * 16) (within : j * 16 + n * 16 ≤ skip + length xs) where
      abbrev i : ℕ
      i = j * 16 - skip

      inside : i + n * 16 ≤ length xs
      inside = omega (arith, within, from)

      there : i + (skip + o) ≡ j * 16 + o
      there = omega (arith, from)

      -- a run of units that are the owner's leaves as room for them
      pub takes_units : IsOwn cs i (n * 16)
          → ent 𝓤 (sep 𝓤 (sem 𝓛 (held (kept_at cs) 0 xs b (skip + o))) (sem 𝓛 (ways_of (own_unit cs skip (length xs)) 0 N b o)))
          (sep 𝓤 (𝓛.H.room (units_ty n) b (j * 16 + o))
          (sep 𝓤 (sem 𝓛 (held (kept_at (left i (n * 16) cs)) 0 xs b (skip + o))) (sem 𝓛 (ways_of (own_unit (left i (n * 16) cs) skip (length xs)) 0 N b o))))
      takes_units own =
          let was = own_unit cs skip (length xs) in let ds = left i (n * 16) cs in let now = own_unit ds skip (length xs) in
          qed 𝓛 (‵ (held (kept_at cs) 0 xs b (skip + o)) ∷ ‵ (ways_of was 0 N b o) ∷ []) ∵
          use1 𝓛 (‵ (froom (bytes_ty (n * 16)) b (i + (skip + o))) ⊛ ‵ (Around 𝓛 b (kept_at cs) (skip + o) xs i (n * 16)))
          (room_out 𝓛 b cs (skip + o) xs i (n * 16) inside own) $ split ! $
          rewrite ! 0 (λ (k : ℕ). ‵ (froom (bytes_ty (n * 16)) b k)) there refl $ move ! (1 ∷ []) $ use1 𝓛 (‵ (held (kept_at ds) 0 xs b (skip + o)))
          (goes 𝓛 b cs (skip + o) xs i (n * 16) inside) $
          move ! (2 ∷ []) $ use1 𝓛 (‵ (ways_of run 0 N b o) ⊛ ‵ (ways_of now 0 N b o))
          (ways_part 𝓛 b was now run 0 N o
          (λ u. parted cs ds [] skip (length xs) (j * 16) (n * 16) u from within own (left-out cs i (n * 16)) (λ k side. around-left cs i (n * 16) k side)
          (none-own 0 (n * 16)))) $ split ! $
          -- [the run's ways; the others; the bytes; the room]
          use1 𝓛 (‵ (ways n b (j * 16 + o))) run_ways $ move ! (3 ∷ 0 ∷ []) $ use2 𝓛 (‵ (froom (units_ty n) b (j * 16 + o))) (closed 𝓛 b n (j * 16 + o)) $ move !
          (0 ∷ 2 ∷ 1 ∷ []) $ done !

      -- and comes back, where it was out: it is raw
      pub puts_units : AreBytesOut cs i (n * 16)
          → ent 𝓤 (sep 𝓤 (𝓛.H.room (units_ty n) b (j * 16 + o))
          (sep 𝓤 (sem 𝓛 (held (kept_at cs) 0 xs b (skip + o))) (sem 𝓛 (ways_of (own_unit cs skip (length xs)) 0 N b o))))
          (sep 𝓤 (sem 𝓛 (held (kept_at (came_raw i (n * 16) cs)) 0 xs b (skip + o))) (sem 𝓛 (ways_of (own_unit (came_raw i (n * 16) cs) skip (length xs)) 0 N b o)))
      puts_units gone =
          let was = own_unit cs skip (length xs) in let ds = came_raw i (n * 16) cs in let now = own_unit ds skip (length xs) in
          qed 𝓛 (‵ (froom (units_ty n) b (j * 16 + o)) ∷ ‵ (held (kept_at cs) 0 xs b (skip + o)) ∷ ‵ (ways_of was 0 N b o) ∷ []) ∵
          use1 𝓛 (‵ (froom (bytes_ty (n * 16)) b (j * 16 + o)) ⊛ ‵ (ways n b (j * 16 + o))) (opened 𝓛 b n (j * 16 + o)) $ split ! $ move ! (0 ∷ 2 ∷ []) $
          rewrite ! 0 (λ (k : ℕ). ‵ (froom (bytes_ty (n * 16)) b k)) (sym there) refl $
          use2 𝓛 (‵ (held (kept_at ds) 0 xs b (skip + o))) (comes_raw 𝓛 b cs (skip + o) xs i (n * 16) inside) $
          -- [the bytes; the run's ways; the others]
          move ! (1 ∷ 2 ∷ []) $ use1 𝓛 (‵ (ways_of run 0 N b o)) ways_run $ use2 𝓛 (‵ (ways_of now 0 N b o))
          (ways_join 𝓛 b now was run 0 N o
          (λ u. parted ds cs [] skip (length xs) (j * 16) (n * 16) u from within (raw-own cs i (n * 16)) gone (λ k side. around-raw cs i (n * 16) k side)
          (none-own 0 (n * 16)))) $
          move ! (1 ∷ 0 ∷ []) $ done !

      -- units that are owned beside the bytes are out
      pub clash_units : Model 𝓤 𝓛.H
          → ent 𝓤 (sep 𝓤 (𝓛.H.room (units_ty n) b (j * 16 + o)) (sem 𝓛 (held (kept_at cs) 0 xs b (skip + o)))) (fact 𝓤 (AreBytesOut cs i (n * 16)))
      clash_units 𝓜 = qed 𝓛 (‵ (froom (units_ty n) b (j * 16 + o)) ∷ ‵ (held (kept_at cs) 0 xs b (skip + o)) ∷ []) ∵
          use1 𝓛 (‵ (froom (bytes_ty (n * 16)) b (j * 16 + o)) ⊛ ‵ (ways n b (j * 16 + o))) (opened 𝓛 b n (j * 16 + o)) $ split ! $ move ! (1 ∷ []) $ skip' ! $
          rewrite ! 0 (λ (k : ℕ). ‵ (froom (bytes_ty (n * 16)) b k)) (sym there) refl $ by ! (clash 𝓛 b 𝓜 cs (skip + o) xs i (n * 16) inside)
