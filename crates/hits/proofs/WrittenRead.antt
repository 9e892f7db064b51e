-- A payload that was written is read back: its fields, its mark and its results, one after another, and then the end.
use Prim.Native.Nat.{ℕ, ◌-◌}
use mathlib.Core.Path.{◌≡◌, refl, sym, ap, ◌∙◌}
use mathlib.Core.List.{List, [], ◌∷◌, ◌++◌, append_assoc}
use native.Mathlib.Omega.{arith}
use lib.ListN.{length, get_or, take, drop, length-append}
use lib.Seq.{take_at, drop_at, drop-drop}
use Rattle.laws.specs.Bytes.{little, little_bytes}
use Rattle.laws.proofs.Writing.{little_of_bytes}
use Rattle.hits.specs.declared.writing.Responder.{Responder}
use Rattle.hits.specs.Results.{HitResult, results_bytes}
use Rattle.hits.specs.Reading.{beginning, head_in}
use Rattle.hits.specs.Writing.{head_bytes, hit_payload}
use Rattle.hits.specs.Words.{AllTellable, Holds, Typed, ReadsWritten}
use Rattle.hits.proofs.HeadLaws.{begin-taken}
use Rattle.hits.proofs.NextCall.{marked-length}
use Rattle.hits.proofs.ReadsAll.{marked, held-long, reads_all}

module _ (from : Responder) (rs : List HitResult) (ty : Typed from) (t : AllTellable rs) where
  abbrev behind : List ℕ
  behind = results_bytes rs ++ from.mark

  held : Holds (hit_payload from rs) (length rs) rs [] from.mark
  unfolding hit_payload head_bytes
  held =
      record {
        head = little_bytes 2 from.port ++ (from.address ++ little_bytes 4 from.speed);
        is = refl;
        ten = simp length-append (omega (arith, ty.address));
        sixteen = ty.mark;
        tellable = t;
      }

  begun : beginning (hit_payload from rs) ≡ head_in (hit_payload from rs)
  begun = begin-taken (hit_payload from rs) (held-long (hit_payload from rs) (length rs) rs [] from.mark held)

  count : get_or (hit_payload from rs) 0 0 ≡ length rs
  unfolding hit_payload head_bytes
  count = refl

  port : little (take 2 (drop 1 (hit_payload from rs))) ≡ from.port
  unfolding hit_payload head_bytes
  port = omega (arith, ty.port)

  from-three : drop 3 (hit_payload from rs) ≡ from.address ++ (little_bytes 4 from.speed ++ behind)
  unfolding hit_payload head_bytes
  from-three = append_assoc from.address (little_bytes 4 from.speed) behind

  address : take 4 (drop 3 (hit_payload from rs)) ≡ from.address
  address = ap (take 4) from-three ∙ take_at from.address (little_bytes 4 from.speed ++ behind) 4 ty.address

  speed : little (take 4 (drop 7 (hit_payload from rs))) ≡ from.speed
  speed =
      ap (λ l. little (take 4 l))
      (sym (drop-drop 4 3 (hit_payload from rs))
      ∙ ap (drop 4) from-three
      ∙ drop_at from.address (little_bytes 4 from.speed ++ behind) 4 ty.address)
      ∙ little_of_bytes from.speed ty.speed

  mark : drop (length (hit_payload from rs) - 16) (hit_payload from rs) ≡ from.mark
  mark =
      let p = hit_payload from rs in
      let m = marked p (length rs) rs [] from.mark held in
      let front = (length rs ∷ held.head) ++ (results_bytes rs ++ []) in
      let e : length front ≡ length p - 16 = omega (arith, marked-length p front from.mark m) in
      ap (drop (length p - 16)) m.is ∙ drop_at front from.mark (length p - 16) e

pub reads-written : ReadsWritten
reads-written from rs ty t few =
    let p = hit_payload from rs in
    let all = reads_all p (length rs) rs [] from.mark (held from rs ty t) (omega arith) in
    let e = begun from rs ty t in
    record {
      answer = ap (λ b. b.answer) e;
      results = ap (λ b. b.results) e ∙ count from rs ty t;
      port = ap (λ b. b.port) e ∙ port from rs ty t;
      address = ap (λ b. b.address) e ∙ address from rs ty t;
      speed = ap (λ b. b.speed) e ∙ speed from rs ty t;
      mark = ap (λ b. drop b.markat p) e ∙ mark from rs ty t;
      last = all.last;
      handed = all.handed;
      ended = all.ended refl;
    }
