-- The tickets that a ledger has issued. A ticket agrees with its entry, and a live entry has one ticket.
use Rattle.std.specs.Prelude.{◌≡◌, ℕ, suc, ◌<◌, Bool, true, false, List, [], ◌∷◌, length, get_or}
use base.Fraction.{full_share}
use base.Share.{quarter, three_quarters}
use base.Stored.{Coded, coded_ℕ, coded×, coded_via}
use base.SetCodes.{coded}
use base.Algebra.{Algebra}
use base.Algebras.{both, shares, agreed}
use base.Fml.{Share, Fml, fsep}
use types.Keyed.{entry, entries_from}

-- what a ticket shows of its payload: the address, the length and the alignment
pub record Extent : Type 0 where
  pub addr : ℕ
  pub len : ℕ
  pub align : ℕ

-- the same by its numbers
abbrev pub extent : ℕ → ℕ → ℕ → Extent
extent addr len align = record { addr = addr; len = len; align = align }

-- an entry: what its ticket shows, and whether that ticket is not yet redeemed
pub record Entry : Type 0 where
  pub addr : ℕ
  pub len : ℕ
  pub align : ℕ
  pub live : Bool

-- the entry of a ticket that shows this
abbrev pub entry_of : Extent → Bool → Entry
entry_of v t = record { addr = v.addr; len = v.len; align = v.align; live = t }

-- what the ticket of an entry shows
abbrev pub shown_by : Entry → Extent
shown_by e = extent e.addr e.len e.align

-- nothing, for an entry that isn't there
abbrev pub nowhere : Extent
nowhere = extent 0 0 0

-- three numbers as a ghost value
abbrev pub coded_extent : Coded Extent
coded_extent =
    coded_via (coded× coded_ℕ (coded× coded_ℕ coded_ℕ)) (λ v. (v.addr, (v.len, v.align))) (λ v w e i. record { addr = (e i).0; len = (e i).1.0; align = (e i).1.1 })

-- shares of an entry, all of which agree on what its ticket shows
abbrev pub entry_shares : Algebra
entry_shares = both shares (agreed (coded coded_extent))

-- the share q of the k-th entry
abbrev pub entry_share : ℕ → ℕ → Share → Extent → Fml
entry_share δ k q v = entry entry_shares δ k (q, v)

-- what the ledger owns of an entry: a quarter where it is live, and else the whole
abbrev pub entry_owns : ℕ → ℕ → Bool → Extent → Fml
entry_owns δ k true v = entry_share δ k quarter v
entry_owns δ k false v = entry_share δ k full_share v

-- what the ledger owns: its part of each entry from the k-th on, and all the entries behind them
abbrev pub ledger_owns : ℕ → ℕ → List Entry → Fml
ledger_owns δ k [] = entries_from entry_shares δ k (λ _. (full_share, nowhere))
ledger_owns δ k (e ∷ es) = fsep (entry_owns δ k e.live (shown_by e)) (ledger_owns δ (suc k) es)

-- what a ticket owns: three quarters of its entry
abbrev pub ticket_owns : ℕ → ℕ → Extent → Fml
ticket_owns δ k v = entry_share δ k three_quarters v

-- the k-th entry is live, and its ticket shows this
abbrev pub IsIssued : List Entry → ℕ → Extent → Type 0
IsIssued es k v = (k < length es) × (get_or es k (entry_of nowhere false) ≡ entry_of v true)
