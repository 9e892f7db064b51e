-- A query that passes one hop on passes the made table that its station has read.
-- Assumes nothing.
use Prim.Native.Nat.{ℕ, ◌+◌, ◌-◌, ◌^◌, ◌≤◌, ◌<◌}
use native.Mathlib.Omega.{arith}
use mathlib.Core.Path.{◌≡◌, ap, ◌∙◌}
use mathlib.Core.Bool.{true, false}
use mathlib.Core.List.{List}
use Rattle.wire.specs.Header.{payload_of}
use Rattle.keywords.specs.Keywords.{keywords_of}
use Rattle.tables.specs.Tables.{Held, settled}
use Rattle.tables.specs.Admission.{withholds}
use Rattle.tablemessages.specs.RoundTrip.{settled_as}
use Rattle.namearea.specs.Area.{names_in}
use Rattle.tablemerging.specs.Merging.{made_entries}
use Rattle.tablemerging.specs.Words.{Holds}
use Rattle.tablemerging.proofs.Words.{passes_on}
use Rattle.protocol.specs.declared.Line.{Line}
use Rattle.protocol.specs.Lines.{is_other}
use Rattle.protocol.specs.State.{Station, line_at, held_at}
use Rattle.protocol.specs.Queries.{usual_limit, infinity_written, text_in}
use Rattle.protocol.specs.Periods.{life_left}
use Rattle.protocol.proofs.Matching.{line_set}
use Rattle.roundtrip.proofs.Feeding.{line-below}
use Rattle.parting.proofs.Taken.{query-goes, own-goes}
use Rattle.relaying.proofs.Entries.{say_iff, has-line, words}
use Rattle.relaying.proofs.Entries as entries
use Rattle.relayed.specs.Settled.{Making, Done, entries_of, infinity_of, Sending, Sent, read_by}
use Rattle.relayed.specs.Hops.{PassesTo, PassedOn}
use Rattle.relayed.proofs.Settled.{others, standing, power, infinity-is, entries-are, long}
use Rattle.relayed.proofs.Settled.{settles_as_made}

module _ (m : Making) (w : Sending) (ok : Done m) (sent : Sent m w) (k : ℕ) (low : k ≤ 7)
    (other : is_other m.line k ≡ true) (mark : (line_at m.state k).table.mark ≡ settled) where
  -- the table one hop further, and what the reader's line holds
  abbrev next : Held
  next = held_at m.state k m.route

  abbrev held : Held
  held = held_at (read_by m w).state w.line (read_by m w).area

  is_held : held ≡ settled_as (entries_of m) (infinity_of m)
  is_held = (settles_as_made m w ok sent).held

  holds : Holds held (power m ok).0 (infinity_written usual_limit) (names_in m.names) (others m ok)
  holds =
      let p : m.size ≡ 2 ^ (power m ok).0 = (power m ok).3 in
      record {
        long = ap (λ (h : Held). h.table.length) is_held ∙ long m ok ∙ p;
        limit = ap (λ (h : Held). h.table.infinity) is_held ∙ infinity-is m ok;
        entries =
            ap (λ (h : Held). h.entries) is_held
            ∙ entries-are m ok
            ∙ ap (λ n. made_entries (infinity_written usual_limit) n (names_in m.names) (others m ok)) p;
      }

  passes : (keywords : List (List ℕ)) (ttl : ℕ) → ttl + 1 < infinity_written usual_limit
      → withholds next keywords ttl ≡ false → withholds held keywords (ttl + 1) ≡ false
  passes keywords ttl life lets =
      let o = (standing m ok).order in
      let fits = (standing m ok).fits.1 in
      let below : k < 8 = omega arith in
      let limits = words m.state m.line m.route o fits k below mark in
      let size : next.table.length ≡ 2 ^ limits.power = limits.long in
      let most = limits.most in
      let few = (power m ok).2 in
      passes_on (power m ok).0 limits.power (omega arith) (omega arith) (infinity_written usual_limit)
      (names_in m.names) (others m ok) next held holds
      (has-line m.state m.line m.route 8 0 k (omega arith) below
      ((say_iff m.state.lines m.line k).1 (other, mark)))
      mark size (entries.long m.state m.line m.route o fits k below mark ∙ size) keywords ttl life lets

  live : (line_at (read_by m w).state w.line).live ≡ true
  live =
      ap (λ (y : Station). (line_at y w.line).live) (settles_as_made m w ok sent).state
      ∙ ap (λ (y : Line). y.live)
      (line_set w.state w.line _ (line-below w.state w.line w.route sent.listening))
      ∙ sent.listening.live

  goes_to : PassesTo next w.line (read_by m w).state (read_by m w).area
  goes_to =
      record {
        arriving = λ l q t kind apart life lets done.
            let e : life_left usual_limit q - 2 + 1 ≡ life_left usual_limit q - 1 = omega arith in
            (query-goes (read_by m w).state (read_by m w).area l q t kind done w.line sent.listening.line).1 (
              live,
              apart,
              life,
              rw e at (passes (keywords_of (text_in (payload_of q))) (life_left usual_limit q - 2) (omega arith) lets),
            );
        own = λ number text out lets done.
            (own-goes (read_by m w).state (read_by m w).area number text out done w.line sent.listening.line).1
            (live, passes (keywords_of text) (usual_limit - 1) (omega arith) lets);
      }

pub passed_on : PassedOn
passed_on = goes_to
