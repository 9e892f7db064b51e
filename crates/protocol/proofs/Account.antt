-- What the updates of an opening come to is what is expected of the line: the account of crate tables, call by call.
-- Assumes nothing.
use Prim.Native.Nat.{ℕ}
use mathlib.Core.Path.{◌≡◌, refl, sym, subst}
use mathlib.Core.Bool.{Bool, true, false, cond, ◌&&◌, and-false}
use mathlib.Core.List.{List, [], ◌∷◌}
use lib.Dec.{eqb}
use borrow.Author.Tests.{ne_eqb}
use Rattle.wire.specs.Header.{ttl_of, hops_of, payload_of}
use Rattle.tables.specs.Updates.{updated}
use Rattle.tables.proofs.HistoryLaws.{update, after-update}
pub use Rattle.tables.specs.Answers.{no_held}
pub use Rattle.tables.proofs.HistoryLaws.{Accounts, nothing_yet}
use Rattle.protocol.specs.Outcomes.{Outcome}
use Rattle.protocol.specs.Runs.{Call, Open, Close, Message, Ask, unsent}
use Rattle.protocol.specs.Expected.{Expected, wiped, brought, is_update_of, feed}
use Rattle.protocol.specs.History.{Update, noted}
use Rattle.protocol.specs.Demand3.{Agrees}
use Rattle.protocol.proofs.Outcomes.{unused-some}

-- a call that is unsent is not accepted
unsent-refused : (c : Call) (n : ℕ) → unsent c n ≡ true → eqb n 0 ≡ false
unsent-refused c n e = ne_eqb n 0 (unused-some n e)

-- one call: an opening or closing of the line begins anew, an update of the line is added, any other leaves both
module _ (limit L room : ℕ) (o : Outcome) (e : Expected) (us : List Update) (q : Accounts e.held us) where
  -- what stands after a call that is unsent or not
  abbrev After : Call → Bool → Type 0
  After c b = Accounts (feed L room (brought c) b e).held (noted L c o.answer us)

  anew : (l : ℕ) (live : Bool) → Accounts (cond (eqb l L) (wiped live) e).held (cond (eqb l L && true) [] us)
  anew l live = go (eqb l L)
    where
      go : (b : Bool) → Accounts (cond b (wiped live) e).held (cond (b && true) [] us)
      go true = nothing_yet
      go false = q

  pub account_call : (c : Call) → Agrees limit L room e us c o → After c (unsent c o.answer)
  unfolding feed
  account_call c h = go c h (unsent c o.answer) refl
    where
      go : (c : Call) → Agrees limit L room e us c o → (b : Bool) → unsent c o.answer ≡ b → After c b
      go (Open l) h true z = rw (unsent-refused (Open l) o.answer z, and-false) q
      go (Open l) h false z = rw (h z) (anew l true)
      go (Close l) h true z = rw (unsent-refused (Close l) o.answer z, and-false) q
      go (Close l) h false z = rw (h z) (anew l false)
      go (Message l m t a) h true z = rw (z, and-false) q
      go (Message l m t a) h false z = noting (is_update_of L l m) refl
        where
          noting : (u : Bool) → is_update_of L l m ≡ u → After (Message l m t a) false
          noting false i = rw (z, i) q
          noting true i =
              rw (z, i)
              (subst
              (λ (n : ℕ). Accounts (updated room e.held (ttl_of m) (hops_of m) (payload_of m))
              (update (payload_of m) n ∷ us))
              (sym (h.0 z i).0)
              (after-update e.held us q (payload_of m) room (ttl_of m) (hops_of m)))
      go (Ask number text t a) h true z = q
      go (Ask number text t a) h false z = q
