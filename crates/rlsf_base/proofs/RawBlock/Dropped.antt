-- Parameters that a call consumes: when it ends, the caller owns nothing of them. Assumes `Logic`.
use Rattle.std.proofs.Common.{ℕ, List, [], ◌∷◌, T}
use seplogic.Ra.Ura.{Ura}
use types.Logic.{Logic}
use contract.Lifetimes.{Lfts}
use denote.Exit.{Last, left}
use denote.Param.Mute.{blank}
use denote.Signature.{Slot}
use denote.Triple.End.{Kepts}
use denote.Triple.Walked.{Stay, Stays, Goes, AllGo, stay_dropped}
use Rattle.core.proofs.alloc.Calls.{Goes-blank}

module _ {n : ℕ} where
  abbrev pub all_dropped : (ss : List (Slot n)) (ks : Kepts ss) → Stays ss ks
  all_dropped [] ks = tt
  all_dropped (s ∷ ss) ks = (stay_dropped s ks.0, all_dropped ss ks.1)

  -- what is left of each is made of nothing
  abbrev pub AllBlank : (ss : List (Slot n)) (ks : Kepts ss) → Type 0
  AllBlank [] ks = Unit {0}
  AllBlank (s ∷ ss) ks = ((κs : Lfts n) (x : (s.row κs).Denot) (f : Last ((s.row κs).exit ks.0) x) → T (blank (left ((s.row κs).exit ks.0) x f))) × AllBlank ss ks.1

  -- how the first one stays
  abbrev pub FirstStay : (ss : List (Slot n)) (ks : Kepts ss) → Type 1
  FirstStay [] ks = Unit {1}
  FirstStay (s ∷ ss) ks = Stay s ks.0

  -- the first one stays, and the others are consumed
  abbrev pub others_dropped : (ss : List (Slot n)) (ks : Kepts ss) → FirstStay ss ks → Stays ss ks
  others_dropped [] ks h = tt
  others_dropped (s ∷ ss) ks h = (h, all_dropped ss ks.1)

  -- what the first one and the others owe
  abbrev pub FirstGoes : {M : Type 1} {𝓤 : Ura M} (𝓛 : Logic 𝓤) (ss : List (Slot n)) (ks : Kepts ss) → FirstStay ss ks → Type 1
  FirstGoes 𝓛 [] ks h = Unit {1}
  FirstGoes 𝓛 (s ∷ ss) ks h = Goes 𝓛 n s ks.0 h

  abbrev pub OthersBlank : (ss : List (Slot n)) (ks : Kepts ss) → Type 0
  OthersBlank [] ks = Unit {0}
  OthersBlank (s ∷ ss) ks = AllBlank ss ks.1

module _ {M : Type 1} {𝓤 : Ura M} (𝓛 : Logic 𝓤) (n : ℕ) where
  pub all_go : (ss : List (Slot n)) (ks : Kepts ss) → AllBlank ss ks → AllGo 𝓛 n ss ks (all_dropped ss ks)
  all_go [] ks are = tt
  all_go (s ∷ ss) ks are = (Goes-blank 𝓛 n s ks.0 are.0, all_go ss ks.1 are.1)

  pub others_go : (ss : List (Slot n)) (ks : Kepts ss) (h : FirstStay ss ks) → FirstGoes 𝓛 ss ks h → OthersBlank ss ks → AllGo 𝓛 n ss ks (others_dropped ss ks h)
  others_go [] ks h goes are = tt
  others_go (s ∷ ss) ks h goes are = (goes, all_go ss ks.1 are)
