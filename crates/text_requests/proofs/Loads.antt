-- Loaded delays, stored one after the other as `new` reads them: 16 bytes to each flow, the first weighing most. Assumes nothing.
use Prim.Native.Nat.{ℕ, zero, suc, ◌+◌, ◌-◌, ◌*◌, ◌<◌, ◌≤◌, min}
use mathlib.Core.Path.{◌≡◌, refl, sym, ap, ◌∙◌}
use mathlib.Core.List.{List, [], ◌∷◌, ◌++◌}
use native.Mathlib.Numerals.{add-one}
use native.Mathlib.Omega.{arith}
use lib.ListN.{length, get_or, take, drop, set, length-set}
use lib.Seq.{get_or-take, length-take-le}
use Rattle.std.specs.Int.{w64, to_be_bytes}
use Rattle.std.proofs.lemmas.List.{get_or_append_left, take_at, drop_at}
use Rattle.std.proofs.lemmas.Nat.{from_be_bytes-to_be_bytes_8}
use Rattle.byte_order.specs.Bytes.{bytes_at}
use Rattle.byte_order.proofs.Written.{eight_bytes}
use Rattle.rules_calls.specs.NewLoading.{loaded_flow}
use Rattle.text_requests.specs.declared.lists.Load.{Load}
use Rattle.text_requests.specs.Lists.{HalfPut, Loads, load_kept, loads_at, loaded_flows, loaded_as}
use Rattle.text_requests.proofs.Loops.{stored, Listing, listing_none, listing_more, listing_done}

-- ---- the bytes of a number, the first weighing most, put from a place on
pub half_put : (place value : ℕ) (flows rest : List ℕ) → place ≤ length flows → value < 18446744073709551616 → HalfPut place value flows (take place flows ++ (to_be_bytes w64 value ++ rest))
half_put place value flows rest h small = record {
  there = sym (eight_bytes (take place flows ++ (eight ++ rest)) place stands (sym (from_be_bytes-to_be_bytes_8 value small)));
  below = λ k l. get_or_append_left (take place flows) (eight ++ rest) 0 k (omega (arith, length-take-le place flows h)) ∙ get_or-take place flows k 0 l;
}
  where
    eight : List ℕ
    eight = to_be_bytes w64 value

    stands : eight ≡ take (place + 8 - place) (drop place (take place flows ++ (eight ++ rest)))
    stands =
        let n : place + 8 - place ≡ 8 = omega arith in
        sym (rw (drop_at (take place flows) (eight ++ rest) place (length-take-le place flows h), n, take_at eight rest 8 refl))

-- ---- flows that are read from the same bytes
module _ (a b : List ℕ) where
  bytes_same : (place n : ℕ) → ((k : ℕ) → k < place + n → get_or a k 0 ≡ get_or b k 0) → bytes_at a place n ≡ bytes_at b place n
  unfolding bytes_at
  bytes_same place zero h = refl
  bytes_same place (suc n) h = rw (bytes_same place n (λ k l. h k (omega arith)), h (place + n) (omega arith))

  flow_same : (i : ℕ) → ((k : ℕ) → k < i * 16 + 16 → get_or a k 0 ≡ get_or b k 0) → loaded_flow a i ≡ loaded_flow b i
  unfolding loaded_flow
  flow_same i h = rw (bytes_same (i * 16) 8 (λ k l. h k (omega arith)), bytes_same (i * 16 + 8) 8 (λ k l. h k (omega arith)))

  flows_same : (n : ℕ) → ((k : ℕ) → k < n * 16 → get_or a k 0 ≡ get_or b k 0) → loaded_flows n a ≡ loaded_flows n b
  flows_same zero h = refl
  flows_same (suc n) h = rw (flows_same n (λ k l. h k (omega arith)), flow_same n (λ k l. h k (omega arith)))

-- a flow more was stored, its high half first
flow_stored : (i : ℕ) {high low : ℕ} {a b c : List ℕ} → HalfPut (i * 2 * 8) high a b → HalfPut ((i * 2 + 1) * 8) low b c → loaded_flows (i + 1) c ≡ loaded_flows i a ++ (record { high = high; low = low } ∷ [])
unfolding loaded_flow
flow_stored i {high} {low} {a} {b} {c} p q = rw (add-one i, before, is_high, is_low)
  where
    first : i * 16 ≡ i * 2 * 8
    first = omega arith

    second : i * 16 + 8 ≡ (i * 2 + 1) * 8
    second = omega arith

    before : loaded_flows i c ≡ loaded_flows i a
    before = flows_same c a i (λ k h. q.below k (omega arith) ∙ p.below k (omega arith))

    is_high : bytes_at c (i * 16) 8 ≡ high
    is_high = bytes_same c b (i * 16) 8 (λ k h. q.below k (omega arith)) ∙ ap (λ (place : ℕ). bytes_at b place 8) first ∙ p.there

    is_low : bytes_at c (i * 16 + 8) 8 ≡ low
    is_low = ap (λ (place : ℕ). bytes_at c place 8) second ∙ q.there

-- ---- the loaded delays
-- the first i are stored, in lists that have room for all
pub record Loading (s : List ℕ) (start n : ℕ) (bytes delays : List ℕ) (at i : ℕ) : Type 0 where
  pub room : (262144 ≤ length bytes) × (16384 ≤ length delays)
  pub flows : Listing (λ (at : ℕ). (load_kept s at).value.flow) (λ (at : ℕ). (load_kept s at).next) (min n 16384) start (loaded_flows i bytes) at i
  pub kept : Listing (λ (at : ℕ). (load_kept s at).value.delay) (λ (at : ℕ). (load_kept s at).next) (min n 16384) start (take i delays) at i

module _ {s : List ℕ} {start n : ℕ} where
  pub loading_none : {bytes delays : List ℕ} → (262144 ≤ length bytes) × (16384 ≤ length delays) → Loading s start n bytes delays start 0
  loading_none h = record { room = h; flows = listing_none; kept = listing_none }

  module _ {bytes delays : List ℕ} {at i : ℕ} (inv : Loading s start n bytes delays at i) where
    pub loading_more : i < min n 16384 → {load : Load} → load ≡ (load_kept s at).value → {next : ℕ} → next ≡ (load_kept s at).next
        → {between after : List ℕ} → HalfPut (i * 2 * 8) load.flow.high bytes between → length between ≡ length bytes
        → HalfPut ((i * 2 + 1) * 8) load.flow.low between after → length after ≡ length between → Loading s start n after (set delays i load.delay) next (i + 1)
    loading_more h {load} e f p l q m = record {
      room = (omega (arith, inv.room), omega (arith, inv.room, length-set delays i load.delay));
      flows = listing_more inv.flows h (ap (λ (x : Load). x.flow) e) f (flow_stored i p q);
      kept = listing_more inv.kept h (ap (λ (x : Load). x.delay) e) f (stored delays i load.delay (omega (arith, inv.room)));
    }

    pub all_loaded : min n 16384 ≤ i → loaded_as n bytes delays ≡ loads_at s start n
    unfolding loads_at
    all_loaded h = let e : min n 16384 ≡ i = omega (arith, inv.flows.within) in rw (listing_done inv.flows h, listing_done inv.kept h) at (here e)
      where
        here : min n 16384 ≡ i → ◌≡◌ {A = Loads} (loaded_as n bytes delays) (record { flows = loaded_flows i bytes; delays = take i delays })
        here e = rw e
