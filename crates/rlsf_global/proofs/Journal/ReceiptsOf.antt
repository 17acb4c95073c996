-- A caller's receipts, entry by entry.
use Rattle.std.proofs.Common.{◌≡◌, ◌≢◌, ◌⊎◌, ℕ, suc, ◌+◌, ◌<◌, List, [], ◌∷◌, length, drop, get_or, drop-cons, refl, sym, ap, subst}
use Rattle.std.proofs.Common.{inl, inr, ◌∙◌, arith, Bool, true, false, if◌then◌else◌, ◌==◌, true≢false, add-one}
use Rattle.std.proofs.lemmas.Bool.Decides.{eqb_tells, nat_tests}
use Rattle.rlsf_global.specs.declared.entry.Entry.{Entry}
use Rattle.rlsf_global.specs.declared.entry.Receipt.{Receipt}
use Rattle.rlsf_model.specs.Lists.{IsIn}
use Rattle.rlsf_global.specs.Journal.Laws.{ReceiptsAreEntries}
use Rattle.rlsf_global.specs.Journal.Entries.{receipts_of}

abbrev receipt : ℕ → Entry → Receipt
receipt n e = record { number = n; call = e.call; reply = e.reply }

module _ (caller : ℕ) (journal : List Entry) (n : ℕ) (e : Entry) (in_range : n < length journal) (here : e ≡ get_or journal n e) where
  parts : drop n journal ≡ e ∷ drop (n + 1) journal
  parts =
      let next : suc n ≡ n + 1 = omega arith in
      subst (λ (x : Entry). drop n journal ≡ x ∷ drop (n + 1) journal) (sym here)
      (subst (λ (m : ℕ). drop n journal ≡ get_or journal n e ∷ drop m journal) next (drop-cons journal n e in_range))

  pub own : e.caller ≡ caller → receipts_of caller n (drop n journal) ≡ receipt n e ∷ receipts_of caller (n + 1) (drop (n + 1) journal)
  own same = ap (receipts_of caller n) parts ∙ grind (arith, nat_tests)

-- where a receipt of the entries from the number n on comes from
record Source (caller n : ℕ) (es : List Entry) (r : Receipt) : Type 0 where
  place : ℕ
  entry : Entry
  number : r.number ≡ n + place
  in_range : place < length es
  here : (d : Entry) → get_or es place d ≡ entry
  caller_is : entry.caller ≡ caller
  call_is : entry.call ≡ r.call
  reply_is : entry.reply ≡ r.reply

later : {caller n : ℕ} {e : Entry} {es : List Entry} {r : Receipt} → Source caller (n + 1) es r → Source caller n (e ∷ es) r
later {n = n} s = record {
  place = s.place + 1;
  entry = s.entry;
  number = omega (arith, s.number);
  in_range = omega (arith, s.in_range);
  here = λ d. rw add-one (s.here d);
  caller_is = s.caller_is;
  call_is = s.call_is;
  reply_is = s.reply_is;
}

source : (caller n : ℕ) (es : List Entry) (r : Receipt) → IsIn r (receipts_of caller n es) → Source caller n es r
source caller n [] r i = absurd i
source caller n (e ∷ es) r i = by (source caller (n + 1) es r) (e.caller == caller) (eqb_tells e.caller caller) i
  where
    by : (IsIn r (receipts_of caller (n + 1) es) → Source caller (n + 1) es r) → (eq : Bool)
        → ((eq ≡ true) × (e.caller ≡ caller)) ⊎ ((eq ≡ false) × (e.caller ≢ caller))
        → IsIn r (if eq then receipt n e ∷ receipts_of caller (n + 1) es else receipts_of caller (n + 1) es) → Source caller n (e ∷ es) r
    by rest true (inl (_, same)) (inl x) = record {
      place = 0;
      entry = e;
      number = ap (λ (y : Receipt). y.number) x ∙ omega arith;
      in_range = omega arith;
      here = λ d. refl;
      caller_is = same;
      call_is = sym (ap (λ (y : Receipt). y.call) x);
      reply_is = sym (ap (λ (y : Receipt). y.reply) x);
    }
    by rest true (inr (off, _)) (inl x) = absurd (true≢false off)
    by rest true t (inr j) = later (rest j)
    by rest false t j = later (rest j)

pub receipts_are_entries : ReceiptsAreEntries
receipts_are_entries caller journal r i =
    let s = source caller 0 journal r i in
    let at : s.place ≡ r.number = omega (arith, s.number) in
    record {
      entry = s.entry;
      in_range = omega (arith, s.in_range, at);
      here = subst (λ (k : ℕ). (d : Entry) → get_or journal k d ≡ s.entry) at s.here;
      caller_is = s.caller_is;
      call_is = s.call_is;
      reply_is = s.reply_is;
    }
