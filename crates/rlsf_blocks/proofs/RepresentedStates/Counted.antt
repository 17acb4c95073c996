-- The states that a memory represents in which nothing but the counts has changed.
use Rattle.rlsf_base.proofs.Lending.Present.{own-same}
use Rattle.std.proofs.Common.{◌≡◌, ℕ, ◌+◌, arith, sym, ◌∙◌, ap, subst}
use Rattle.rlsf_base.specs.Space.{Space}
use Rattle.rlsf_model.specs.State.{State, usable}
use Rattle.rlsf_model.specs.WellFormed.{IsWellFormed}
use Rattle.rlsf_table.specs.Table.{Table}
use Rattle.rlsf_table.proofs.FreeLists.Counted.{byte_at-counted, bytes_in-counted, word_at-counted, length-counted, range_of-counted, HasTable-counted}
use Rattle.rlsf_blocks.specs.Spare.{KeepsSpare}
use Rattle.rlsf_blocks.specs.StandsFor.{contents, StandsFor}

module _ (m n : Space) (start : n.start ≡ m.start) (bytes : n.bytes ≡ m.bytes) (out : n.out ≡ m.out) where
  -- ---- the states that it represents

  pub StandsFor-counted : {fllen sllen : ℕ} {t : Table} {s : State} → StandsFor fllen sllen (contents m t) s → StandsFor fllen sllen (contents n t) s
  StandsFor-counted {fllen} {sllen} {t} {s} v = record {
    nonzero = omega (arith, start, v.nonzero);
    well_formed = subst (λ memory. IsWellFormed fllen sllen memory s) (sym (range_of-counted m n start bytes out)) v.well_formed;
    sizes = record {
      used = λ u i. word_at-counted m n start bytes out _ ∙ v.sizes.used u i;
      free = λ f i. word_at-counted m n start bytes out _ ∙ v.sizes.free f i;
      sentinel = λ c i. word_at-counted m n start bytes out _ ∙ v.sizes.sentinel c i;
    };
    previous = record {
      used = λ u i. word_at-counted m n start bytes out _ ∙ v.previous.used u i;
      free = λ f i. word_at-counted m n start bytes out _ ∙ v.previous.free f i;
      first = λ c i. word_at-counted m n start bytes out _ ∙ v.previous.first c i;
    };
    payloads =
        record {
          bytes = λ u i. bytes_in-counted m n start bytes out (usable u) ∙ v.payloads.bytes u i;
          pad = λ u i wide. word_at-counted m n start bytes out _ ∙ v.payloads.pad u i wide;
        };
    table = HasTable-counted m n start bytes out v.table;
    own = λ a from unlent c i low high. own-same m n start out a (omega (arith, start, from)) ∙ v.own a (omega (arith, start, from)) unlent c i low high;
  }

  -- ---- the spare bytes

  pub KeepsSpare-counted : (s t : State) → KeepsSpare m s n t
  KeepsSpare-counted s t a from to before after = byte_at-counted m n start bytes out a

  pub KeepsSpare-counted_first : (s t : State) (o : Space) → KeepsSpare n s o t → KeepsSpare m s o t
  KeepsSpare-counted_first s t o h a from to before after =
      h a (omega (arith, start)) (omega (arith, start, length-counted m n start bytes out)) before after ∙ byte_at-counted m n start bytes out a

module _ (m n : Space) (more : ℕ) (touched : n ≡ record m { touches = m.touches + more }) where
  -- more touches alone were counted
  pub StandsFor-touched : {fllen sllen : ℕ} {t : Table} {s : State} → StandsFor fllen sllen (contents m t) s → StandsFor fllen sllen (contents n t) s
  StandsFor-touched = StandsFor-counted m n (ap (λ o. o.start) touched) (ap (λ o. o.bytes) touched) (ap (λ o. o.out) touched)
