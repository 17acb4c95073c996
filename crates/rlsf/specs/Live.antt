-- Many live addresses in a list, and the lemmas of loops over it, which callers name in `using`.
unfoldable pub use Rattle.rlsf_model.specs.LiveAddresses.{AddsPayload, AreLive, payloads_at}
pub use Rattle.rlsf_model.proofs.LiveAddresses.{live_none, live_first, live_last, live_at, live_apart, live_rest, live_front, live_more, live_kept}
pub use Rattle.rlsf_model.proofs.LiveAddresses.{payloads_none, payloads_len, payloads_rest, payloads_more}
