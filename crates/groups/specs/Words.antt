-- The first line of a group (RULES 15.4, 15.5) once more, in words over the values of bytes: what is proved of the
-- definitions that the contracts cite. A definition that took a version or a status of another shape would not have
-- these.
use Rattle.std.specs.Prelude.{ℕ, ◌+◌, ◌-◌, ◌*◌, ◌≤◌, ◌≡◌, ◌↔◌, ◌⊎◌, List, [], ◌∷◌, ◌++◌, length, get_or}
use Rattle.laws.specs.Text.{codes}
use Rattle.groups.specs.Start.{Start}
use Rattle.groups.specs.Start.{start_of}

-- a digit: 48 to 57
abbrev pub Digit : ℕ → Type 0
Digit b = (48 ≤ b) × (b ≤ 57)

-- one digit, two or three, and the number that they write
pub data Number : List ℕ → ℕ → Type 0 where
  one : {x : ℕ} → Digit x → Number (x ∷ []) (x - 48)
  two : {x y : ℕ} → Digit x → Digit y → Number (x ∷ y ∷ []) ((x - 48) * 10 + (y - 48))
  three : {x y z : ℕ} → Digit x → Digit y → Digit z
      → Number (x ∷ y ∷ z ∷ []) (((x - 48) * 10 + (y - 48)) * 10 + (z - 48))

-- a version: a number of one to three digits on each side of a dot, at least 0.6 as two numbers
pub record Versioned (text : List ℕ) (major minor : ℕ) : Type 0 where
  pub left : List ℕ
  pub right : List ℕ
  pub is-major : Number left major
  pub is-minor : Number right minor
  pub least : (1 ≤ major) ⊎ (6 ≤ minor)
  pub whole : text ≡ left ++ (46 ∷ right)

-- a greeting is its word and a version, and nothing more
abbrev pub Greeting : List ℕ → ℕ → ℕ → Type 0
Greeting line major minor =
    (version : List ℕ) × Versioned version major minor × (line ≡ codes "GNUTELLA CONNECT/" ++ version)

abbrev pub GreetingExactly : Type 0
GreetingExactly =
    (line : List ℕ) (major minor : ℕ)
    → (start_of line ≡ record { kind = 1; major = major; minor = minor; code = 0 }) ↔ Greeting line major minor

-- a space, three digits, and then nothing, or a space and any text
pub record Status (status : List ℕ) (code : ℕ) : Type 0 where
  pub digits : List ℕ
  pub text : List ℕ
  pub is_code : Number digits code
  pub three-digits : length digits ≡ 3
  pub ending : (text ≡ []) ⊎ (get_or text 0 0 ≡ 32)
  pub whole : status ≡ 32 ∷ (digits ++ text)

-- a reply is its word, a version and a status
abbrev pub Reply : List ℕ → ℕ → ℕ → ℕ → Type 0
Reply line major minor code =
    (version : List ℕ) × (status : List ℕ) × Versioned version major minor × Status status code
    × (line ≡ codes "GNUTELLA/" ++ (version ++ status))

abbrev pub ReplyExactly : Type 0
ReplyExactly =
    (line : List ℕ) (major minor code : ℕ)
    → (start_of line ≡ record { kind = 2; major = major; minor = minor; code = code }) ↔ Reply line major minor code

-- what is read of a first line is one of the two
abbrev pub GreetingOrReply : List ℕ → Start → Type 0
GreetingOrReply line s = Greeting line s.major s.minor ⊎ Reply line s.major s.minor s.code

-- and any other first line is of kind 0, for which a group is not understood
abbrev pub NoOtherKind : Type 0
NoOtherKind = (line : List ℕ) → ((start_of line).kind ≡ 0 → ⊥) → GreetingOrReply line (start_of line)
