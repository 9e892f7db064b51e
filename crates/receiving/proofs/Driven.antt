-- Scraps that are handed over until they are used up come to the messages of their bytes.
-- Assumes nothing.
use Prim.Native.Nat.{ℕ, zero, suc, ◌+◌, ◌/◌, ◌≤◌, ◌<◌}
use native.Mathlib.Omega.{arith}
use mathlib.Core.Path.{◌≡◌, refl, sym, ap, subst, ◌∙◌}
use mathlib.Core.Bool.{Bool, true, false, ◌&&◌}
use mathlib.Core.List.{List, [], ◌∷◌, ◌++◌, map, append-nil}
use lib.Dec.{eqb}
use lib.ListN.{length, take, drop, length-append, length-drop, take-append-drop}
use lib.Seq.{drop-length}
use borrow.Author.Tests.{eqb-true, eq-eqb, lt-ltb, le-ltb}
use Rattle.laws.proofs.Refusals.{clash, and_fst, and_snd, and_intro}
use Rattle.laws.proofs.Words.{decided}
use Rattle.wire.specs.Header.{kind_of}
use Rattle.protocol.specs.State.{Station, line_at}
use Rattle.protocol.specs.Order.{in_order}
use Rattle.protocol.specs.Outcomes.{Terms, Outcome}
use Rattle.protocol.specs.Calls.{message_outcome}
use Rattle.protocol.specs.Runs.{Call, Open, Close, Message, Ask, Same, run}
use Rattle.protocol.specs.Kept.{Sized}
use Rattle.protocol.specs.Arrived.{Areas}
use Rattle.protocol.proofs.Arrived.{areas-fit}
use Rattle.protocol.proofs.Demand2.{demand2}
use Rattle.receiving.specs.Feeding.{extent_of, held_size, feed_outcome}
use Rattle.receiving.specs.Events.{Event, Receiver, unread, world_of, calls_of, used_by, handle}
use Rattle.receiving.specs.Bare.{bare_world}
use Rattle.receiving.specs.Frames.{Stream, pick_stream, ended, grown, byte_in, bytes_in, bytes_of}
use Rattle.receiving.specs.Driven.{Scrap, scrap_of, handing, driven, driven_by, driven_all, stream_at, cut_into}
use Rattle.receiving.specs.Driven.{bytes_in', Fitting, Ready, Driven, CutAlike, messages_of}
use Rattle.receiving.specs.Driven.{SameMessages, BytesDecide, AnyCut, FewCalls}
use Rattle.receiving.proofs.ByCase.{refusal, typed-read, of_feed}
use Rattle.receiving.proofs.Calls.{feed-uses}
use Rattle.receiving.proofs.CallsLeave.{feed-leaves}
use Rattle.receiving.proofs.Cutting.{run_append, cutting}
use Rattle.receiving.proofs.Streams.{bytes_append, bytes-over, Going}
use Rattle.receiving.proofs.Went.{feed-lives, went-own}
use Rattle.receiving.proofs.NeverOne.{event-kept}

-- a message keeps the length of the route area
message-long : (s : Station) → Sized s → in_order s ≡ true → (l : ℕ) (m : List ℕ) (t : Terms) (route : List ℕ)
    → length (message_outcome s l m t route).route ≡ length route
message-long s z o l m t route = by (update && taken) refl
  where
    r : Outcome
    r = message_outcome s l m t route

    update : Bool
    update = eqb (kind_of m) 0x30

    taken : Bool
    taken = eqb r.answer 0

    by : (b : Bool) → (update && taken) ≡ b → length r.route ≡ length route
    by true e =
        ((demand2 s route (Message l m t Same ∷ []) z o).0.0.part (eqb-true _ 0x30 (and_fst update taken e))
        (eqb-true _ 0 (and_snd update taken e))).long
    by false e =
        ap length ((demand2 s route (Message l m t Same ∷ []) z o).0.0.area
        (λ h. clash (and_intro update taken (eq-eqb _ 0x30 h.0) (eq-eqb _ 0 h.1)) e))

-- what is known after bytes that were handed over, f being the stream so far
record Cut (l : ℕ) (w w' : Receiver) (f : Stream) : Type 0 where
  calls : bare_world (world_of w') ≡ run (bare_world (world_of w)) f.whole
  eight : length w'.state.lines ≡ 8
  going : Going (line_at w'.state l).pending (w'.held l) f.whole f (bytes_of f.whole ++ f.rest)
  ready : f.over ≡ false → Ready l w'

-- a call that hands bytes over
module _ (l : ℕ) (w : Receiver) (t : Terms) (bytes : List ℕ) (fit : 4119 ≤ t.out) where
  abbrev e : Event
  e = handing l bytes t

  module _ (r : Ready l w) where
    -- nothing refuses it before its bytes count
    not-refused : refusal w.state l bytes (w.held l) t w.area ≡ 0
    not-refused =
        let areas : Areas w.state t.out w.area
        = record { output = fit; long = r.areas.long; room = r.areas.room } in
        let eight : l < 8 = let h = r.line in omega arith in
        rw (
          r.order,
          areas-fit w.state t.out w.area areas,
          le-ltb (length (w.held l)) held_size r.long,
          lt-ltb l 8 eight,
          r.live,
          r.open',
          r.begun,
        )

    read : unread (feed_outcome w.state l bytes (w.held l) t w.area).result.answer ≡ false
    read =
        of_feed w.state l bytes (w.held l) t w.area (λ f. unread f.result.answer ≡ false)
        (λ n e z _. absurd (z (sym e ∙ not-refused)))
        (λ _ _ _. refl)
        (λ _ _ _. refl)
        (λ _ _ _ b. typed-read _ b.answer)

    same-long : length (handle w e).area ≡ length w.area
    same-long =
        of_feed w.state l bytes (w.held l) t w.area (λ f. length f.result.route ≡ length w.area)
        (λ _ _ _ _. refl)
        (λ _ _ _. refl)
        (λ _ _ _. refl)
        (λ _ _ _ _. message-long w.state r.sized r.order l _ t w.area)

-- where no payload is too large up to here, none was before
over-before : (l : ℕ) (t : Terms) (f : Stream) (bytes : List ℕ) → (bytes_in l t Same f bytes).over ≡ false
    → f.over ≡ false
over-before l t f bytes e = by f.over refl
  where
    by : (b : Bool) → f.over ≡ b → f.over ≡ false
    by true o = sym (ap (λ (g : Stream). g.over) (bytes-over l t Same f bytes o)) ∙ e
    by false o = o

-- a call more
module _ (l : ℕ) (w w' : Receiver) (f : Stream) (c : Cut l w w' f) (t : Terms) (bytes : List ℕ)
    (fit : 4119 ≤ t.out) where
  abbrev e' : Event
  e' = handing l bytes t

  abbrev f' : Stream
  f' = bytes_in l t Same f (take (used_by w' e') bytes)

  went : Going (line_at (handle w' e').state l).pending ((handle w' e').held l) (f.whole ++ calls_of w' e') f'
      ((bytes_of f.whole ++ f.rest) ++ take (used_by w' e') bytes)
  went = rw (eq-eqb l l refl)
      (went-own w'.state l bytes (w'.held l) t Same w'.area f.whole f (bytes_of f.whole ++ f.rest)
      c.eight c.going)

  -- the calls that the event comes to are the messages that its bytes complete
  adds : f'.whole ≡ f.whole ++ calls_of w' e'
  adds = sym went.messages

  next-ready : f'.over ≡ false → Ready l (handle w' e')
  next-ready o =
      let r : Ready l w' = c.ready (over-before l t f (take (used_by w' e') bytes) o) in
      let k = event-kept w' e' r.sized r.order in
      let same = same-long l w' t bytes fit r in
      let held = (feed-leaves w'.state l bytes (w'.held l) t w'.area).long in
      record {
        sized = k.sized;
        order = k.order;
        areas = record {
          output = omega arith;
          long = rw same r.areas.long;
          room = ap (λ n. n / 8) same ∙ r.areas.room ∙ sym k.room;
        };
        line = r.line;
        live = (feed-lives w'.state l bytes (w'.held l) t w'.area).live l ∙ r.live;
        open' = went.over ∙ o;
        begun = ap (λ b. eqb (extent_of b) 4) (went.rest o) ∙ eq-eqb _ 4 (went.begun o);
        long = rw (eq-eqb l l refl, held) r.long;
      }

  next : Cut l w (handle w' e') f'
  next =
      record {
        calls = cutting w' (e' ∷ [])
            ∙ ap (run (bare_world (world_of w'))) (append-nil (calls_of w' e'))
            ∙ ap (λ v. run v (calls_of w' e')) c.calls
            ∙ sym (run_append f.whole (bare_world (world_of w)) (calls_of w' e'))
            ∙ ap (run (bare_world (world_of w))) went.messages;
        eight = (feed-lives w'.state l bytes (w'.held l) t w'.area).count ∙ c.eight;
        going = record { messages = refl; over = went.over; rest = went.rest; used = refl; begun = went.begun };
        ready = next-ready;
      }

  -- at least one byte is used, where the line is open and not shut
  used-some : f.over ≡ false → (bytes ≡ [] → ⊥) → 1 ≤ used_by w' e'
  used-some o ne =
      (feed-uses w'.state l bytes (w'.held l) t w'.area).some ne (read l w' t bytes fit (c.ready o))

  -- the other bytes follow
  others-follow : bytes_in l t Same f' (drop (used_by w' e') bytes) ≡ bytes_in l t Same f bytes
  others-follow =
      sym (bytes_append l t Same f (take (used_by w' e') bytes) (drop (used_by w' e') bytes))
      ∙ ap (bytes_in l t Same f) (take-append-drop (used_by w' e') bytes)

  -- and are fewer
  others-fewer : (n : ℕ) → (bytes ≡ [] → ⊥) → (f.over ≡ false → length bytes ≤ suc n) → f'.over ≡ false
      → length (drop (used_by w' e') bytes) ≤ n
  others-fewer n ne h o =
      let o' = over-before l t f (take (used_by w' e') bytes) o in
      omega (arith, length-drop (used_by w' e') bytes, used-some o' ne, h o')

not_nil : (b : ℕ) (bs : List ℕ) → b ∷ bs ≡ [] → ⊥
not_nil b bs e = let z : ◌≡◌ {A = ℕ} 0 1 = cc in omega arith

-- a scrap, and scraps
drive : (n l : ℕ) (w w' : Receiver) (f : Stream) → Cut l w w' f → (t : Terms) → 4119 ≤ t.out → (bytes : List ℕ)
    → (f.over ≡ false → length bytes ≤ n) → Cut l w (driven n l t w' bytes) (bytes_in l t Same f bytes)
drive zero l w w' f c t fit [] h = c
drive (suc n) l w w' f c t fit [] h = c
drive zero l w w' f c t fit (b ∷ bs) h =
    let shut : f.over ≡ true = decided f.over (λ o. omega (arith, h o)) in
    subst (Cut l w w') (sym (bytes-over l t Same f (b ∷ bs) shut)) c
drive (suc n) l w w' f c t fit (b ∷ bs) h =
    subst (Cut l w (driven (suc n) l t w' (b ∷ bs))) (others-follow l w w' f c t (b ∷ bs) fit)
    (drive n l w (handle w' (handing l (b ∷ bs) t)) _ (next l w w' f c t (b ∷ bs) fit) t fit
    (drop (used_by w' (handing l (b ∷ bs) t)) (b ∷ bs))
    (others-fewer l w w' f c t (b ∷ bs) fit n (not_nil b bs) h))

drive-all : (l : ℕ) (w w' : Receiver) (f : Stream) → Cut l w w' f → (xs : List Scrap) → Fitting xs
    → Cut l w (driven_all l w' xs) (cut_into l f xs)
drive-all l w w' f c [] fit = c
drive-all l w w' f c (x ∷ xs) fit =
    drive-all l w (driven_by l w' x) _
    (drive (length x.bytes) l w w' f c x.terms fit.0 x.bytes (λ _. omega arith)) xs fit.1

cut-start : (l : ℕ) (w : Receiver) → Ready l w → Cut l w w (stream_at l w)
cut-start l w r =
    record {
      calls = refl;
      eight = r.sized.eight;
      going = record {
        messages = refl;
        over = r.open';
        rest = λ _. refl;
        used = refl;
        begun = λ _. eqb-true _ 4 r.begun;
      };
      ready = λ _. r;
    }

pub driven-all : Driven
driven-all l w xs r fit =
    let c = drive-all l w w (stream_at l w) (cut-start l w r) xs fit in
    record { calls = c.calls; over = c.going.over; rest = c.going.rest }

-- scraps with the same terms are one scrap of their bytes
cut-joined : (l : ℕ) (t : Terms) (f : Stream) (cuts : List (List ℕ))
    → cut_into l f (map (scrap_of t) cuts) ≡ bytes_in l t Same f (bytes_in' (map (scrap_of t) cuts))
cut-joined l t f [] = refl
cut-joined l t f (c ∷ cs) =
    cut-joined l t (bytes_in l t Same f c) cs ∙ sym (bytes_append l t Same f c (bytes_in' (map (scrap_of t) cs)))

all-fitting : (t : Terms) → 4119 ≤ t.out → (cuts : List (List ℕ)) → Fitting (map (scrap_of t) cuts)
all-fitting t fit [] = tt
all-fitting t fit (c ∷ cs) = (fit, all-fitting t fit cs)

pub any-cut : AnyCut
any-cut l w t cuts r fit =
    (driven-all l w (map (scrap_of t) cuts) r (all-fitting t fit cuts)).calls
    ∙ ap (λ (f : Stream). run (bare_world (world_of w)) f.whole) (cut-joined l t (stream_at l w) cuts)
    ∙ sym (driven-all l w (scrap_of t (bytes_in' (map (scrap_of t) cuts)) ∷ []) r (fit, tt)).calls

-- without bytes there is no call
driven-none : (n l : ℕ) (t : Terms) (w : Receiver) → driven n l t w [] ≡ w
driven-none zero l t w = refl
driven-none (suc n) l t w = refl

-- the calls made from w on are at most one more than the messages that were completed on the way from stream f to g
abbrev Few : Receiver → Receiver → Stream → Stream → Type 0
Few w w' f g = length w'.log + length f.whole ≤ length w.log + (length g.whole + 1)

module _ (l : ℕ) (w w' : Receiver) (f : Stream) (c : Cut l w w' f) (t : Terms) (bytes : List ℕ) (fit : 4119 ≤ t.out)
    (n : ℕ) (o : f.over ≡ false) where
  abbrev then' : Receiver
  then' = handle w' (handing l bytes t)

  abbrev stream' : Stream
  stream' = f' l w w' f c t bytes fit

  abbrev left' : List ℕ
  left' = drop (used_by w' (handing l bytes t)) bytes

  longer : length stream'.whole ≡ length f.whole + length (calls_of w' (handing l bytes t))
  longer = ap length (adds l w w' f c t bytes fit) ∙ length-append f.whole (calls_of w' (handing l bytes t))

  few-step : Few then' (driven n l t then' left') stream' (bytes_in l t Same stream' left')
      → Few w' (driven n l t then' left') f (bytes_in l t Same f bytes)
  few-step = by (feed_outcome w'.state l bytes (w'.held l) t w'.area).waits refl
    where
      follow : bytes_in l t Same stream' left' ≡ bytes_in l t Same f bytes
      follow = others-follow l w w' f c t bytes fit

      by : (x : Bool) → (feed_outcome w'.state l bytes (w'.held l) t w'.area).waits ≡ x
          → Few then' (driven n l t then' left') stream' (bytes_in l t Same stream' left')
          → Few w' (driven n l t then' left') f (bytes_in l t Same f bytes)
      by true x ih =
          let none : left' ≡ []
          = ap (λ k. drop k bytes) ((feed-uses w'.state l bytes (w'.held l) t w'.area).waiting' x)
          ∙ drop-length bytes in
          let last : driven n l t then' left' ≡ then' = ap (driven n l t then') none ∙ driven-none n l t then' in
          let same : stream' ≡ bytes_in l t Same f bytes = sym (ap (bytes_in l t Same stream') none) ∙ follow in
          rw (last, ← same) (omega (arith, longer))
      by false x ih =
          let one : length (calls_of w' (handing l bytes t)) ≡ 1 = rw (x, read l w' t bytes fit (c.ready o)) in
          rw (← follow) (omega (arith, longer))

few : (n l : ℕ) (w w' : Receiver) (f : Stream) → Cut l w w' f → (t : Terms) → 4119 ≤ t.out → (bytes : List ℕ)
    → length bytes ≤ n → (bytes_in l t Same f bytes).over ≡ false
    → Few w' (driven n l t w' bytes) f (bytes_in l t Same f bytes)
few zero l w w' f c t fit [] h o = omega arith
few (suc n) l w w' f c t fit [] h o = omega arith
few zero l w w' f c t fit (b ∷ bs) h o = absurd (omega arith)
few (suc n) l w w' f c t fit (b ∷ bs) h o =
    let over = ap (λ (g : Stream). g.over) (others-follow l w w' f c t (b ∷ bs) fit) ∙ o in
    let left : List ℕ = drop (used_by w' (handing l (b ∷ bs) t)) (b ∷ bs) in
    few-step l w w' f c t (b ∷ bs) fit n (over-before l t f (b ∷ bs) o)
    (few n l w (handle w' (handing l (b ∷ bs) t)) _ (next l w w' f c t (b ∷ bs) fit) t fit left
    (others-fewer l w w' f c t (b ∷ bs) fit n (not_nil b bs) (λ _. h) (over-before l t _ left over)) over)

pub few-calls : FewCalls
few-calls l w x r fit o =
    let h = few (length x.bytes) l w w (stream_at l w) (cut-start l w r) x.terms fit x.bytes (omega arith) o in
    omega arith

pub cut-alike : CutAlike
cut-alike l w xs ys r fx fy e =
    (driven-all l w xs r fx).calls
    ∙ ap (run (bare_world (world_of w))) e
    ∙ sym (driven-all l w ys r fy).calls

-- what the bytes say of a stream goes on with a byte more, whatever the terms are that bring it
messages_append : (cs ds : List Call) → messages_of (cs ++ ds) ≡ messages_of cs ++ messages_of ds
messages_append [] ds = refl
messages_append (Open l ∷ cs) ds = messages_append cs ds
messages_append (Close l ∷ cs) ds = messages_append cs ds
messages_append (Message l m t a ∷ cs) ds = ap (λ (x : List (List ℕ)). m ∷ x) (messages_append cs ds)
messages_append (Ask n text t a ∷ cs) ds = messages_append cs ds

module _ (l : ℕ) (t t' : Terms) where
  grown-alike : (f g : Stream) → SameMessages f g → (b : List ℕ) → SameMessages (grown l t Same f b) (grown l t' Same g b)
  grown-alike f g q b = go (eqb (extent_of b) 4)
    where
      go : (four : Bool)
          → SameMessages
          (pick_stream four (record { whole = f.whole; rest = b; over = false }) (ended l t Same f b (eqb (extent_of b) 5)))
          (pick_stream four (record { whole = g.whole; rest = b; over = false })
          (ended l t' Same g b (eqb (extent_of b) 5)))
      go true = record { messages = q.messages; rest = refl; over = refl }
      go false =
          record {
            messages = messages_append f.whole _
                ∙ ap (λ (x : List (List ℕ)). x ++ (b ∷ [])) q.messages
                ∙ sym (messages_append g.whole _);
            rest = refl;
            over = refl;
          }

  byte-alike : (f g : Stream) → SameMessages f g → (b : ℕ) → SameMessages (byte_in l t Same f b) (byte_in l t' Same g b)
  byte-alike f g q b = go f.over refl
    where
      go : (o : Bool) → f.over ≡ o → SameMessages (byte_in l t Same f b) (byte_in l t' Same g b)
      go true z =
          rw (z, sym q.over ∙ z) (record { messages = q.messages; rest = q.rest; over = refl })
      go false z = rw (z, sym q.over ∙ z, q.rest) (grown-alike f g q (g.rest ++ (b ∷ [])))

  bytes-alike : (f g : Stream) → SameMessages f g → (bs : List ℕ) → SameMessages (bytes_in l t Same f bs) (bytes_in l t' Same g bs)
  bytes-alike f g q [] = q
  bytes-alike f g q (b ∷ bs) = bytes-alike (byte_in l t Same f b) (byte_in l t' Same g b) (byte-alike f g q b) bs

cut-same : (l : ℕ) (t : Terms) (f g : Stream) (xs : List Scrap) → SameMessages f g
    → SameMessages (cut_into l f xs) (bytes_in l t Same g (bytes_in' xs))
cut-same l t f g [] q = q
cut-same l t f g (x ∷ xs) q =
    rw (bytes_append l t Same g x.bytes (bytes_in' xs))
    (cut-same l t (bytes_in l x.terms Same f x.bytes) (bytes_in l t Same g x.bytes) xs
    (bytes-alike l x.terms t f g q x.bytes))

pub bytes_decide : BytesDecide
bytes_decide l t f xs = cut-same l t f f xs (record { messages = refl; rest = refl; over = refl })
