-- The first line of a group: a greeting or a reply, with its version.
use Rattle.std.specs.Prelude.{ℕ, Option, Some, None, ◌+◌, Bool, cond, not, ◌&&◌, ◌||◌, List, [], ◌∷◌, leb, eqb, length}
use Rattle.std.specs.Prelude.{get_or, drop}
use Rattle.laws.specs.Tests.{every}
use Rattle.laws.specs.Text.{codes}
use Rattle.groups.specs.declared.start.Version.{Version}
use Rattle.groups.specs.declared.start.FirstLine.{FirstLine}
use Rattle.groups.specs.declared.start.FirstLine.TheVariants.{Greeting, Reply}
use Rattle.ascii.specs.Text.{starts_with, digit_count, digit_value}

-- what a first line says: its kind is 0 where it is not understood, 1 for a greeting, 2 for a reply
pub record Start : Type 0 where
  pub kind : ℕ
  pub major : ℕ
  pub minor : ℕ
  pub code : ℕ

abbrev pub greeting_text : List ℕ
greeting_text = codes "GNUTELLA CONNECT/"

abbrev pub reply_text : List ℕ
reply_text = codes "GNUTELLA/"

abbrev pub one_to_three : ℕ → Bool
one_to_three n = leb 1 n && leb n 3

-- 0.6 or above, major and minor as numbers (RULES 15.5)
abbrev pub at_least06 : ℕ → ℕ → Bool
at_least06 major minor = leb 1 major || leb 6 minor

-- how long a version is, of so many digits, this byte for the dot, and so many digits: 0 where it is none
unfoldable pub version_length : ℕ → ℕ → ℕ → ℕ → ℕ → ℕ
version_length before dot behind major minor =
    cond (every (one_to_three before ∷ eqb dot 46 ∷ one_to_three behind ∷ at_least06 major minor ∷ []))
    (before + 1 + behind) 0

-- what stands behind the dot
abbrev pub behind_dot : List ℕ → List ℕ
behind_dot s = drop (digit_count s + 1) s

-- the version at the front: one to three digits on each side of a dot
abbrev pub version_of : List ℕ → Version
version_of s = record {
  length = version_length (digit_count s) (get_or s (digit_count s) 0) (digit_count (behind_dot s)) (digit_value s)
      (digit_value (behind_dot s));
  major = digit_value s;
  minor = digit_value (behind_dot s);
}

-- a version, of which the length 0 stands for none
abbrev pub unless_empty : Version → Option Version
unless_empty v = cond (eqb v.length 0) None (Some v)

-- a space, three digits, and then nothing or a space and any text
unfoldable pub status_ok : ℕ → ℕ → ℕ → ℕ → Bool
status_ok space digits size next = every (eqb space 32 ∷ eqb digits 3 ∷ (leb size 4 || eqb next 32) ∷ [])

abbrev pub is_status : List ℕ → Bool
is_status s = status_ok (get_or s 0 0) (digit_count (drop 1 s)) (length s) (get_or s 4 0)

-- the code of a status
abbrev pub status_in : List ℕ → Option ℕ
status_in s = cond (is_status s) (Some (digit_value (drop 1 s))) None

-- kind 0: not a first line
abbrev pub no_start : Start
no_start = record { kind = 0; major = 0; minor = 0; code = 0 }

-- what was read of a first line, with its kind as a number
abbrev pub start_by : Option FirstLine → Start
start_by None = no_start
start_by (Some (Greeting major minor)) = record { kind = 1; major = major; minor = minor; code = 0 }
start_by (Some (Reply major minor code)) = record { kind = 2; major = major; minor = minor; code = code }

-- kind 1: a greeting is its version and nothing more
unfoldable pub greeting_from : Version → ℕ → Start
greeting_from v size =
    cond (every (not (eqb v.length 0) ∷ eqb v.length size ∷ []))
    (record { kind = 1; major = v.major; minor = v.minor; code = 0 }) no_start

abbrev pub greeting_of : List ℕ → Start
greeting_of s = greeting_from (version_of s) (length s)

-- kind 2: a reply has a status behind its version
unfoldable pub reply_from : Version → Bool → ℕ → Start
reply_from v status code =
    cond (every (not (eqb v.length 0) ∷ status ∷ []))
    (record { kind = 2; major = v.major; minor = v.minor; code = code }) no_start

-- what stands behind the version
abbrev pub behind_version : List ℕ → List ℕ
behind_version s = drop (version_of s).length s

abbrev pub reply_of : List ℕ → Start
reply_of s = reply_from (version_of s) (is_status (behind_version s)) (digit_value (drop 1 (behind_version s)))

unfoldable pub start_of : List ℕ → Start
start_of line =
    cond (starts_with greeting_text line) (greeting_of (drop 17 line))
    (cond (starts_with reply_text line) (reply_of (drop 9 line)) no_start)
