-- A row is the words of a line as bytes, laid out as an event file is: how many there are, where each begins and the
-- last one ends, all of them numbers of four bytes, and the bytes of the words.
use Rattle.std.specs.Prelude.{ℕ, ◌+◌, ◌*◌, ◌%◌, cond, List, [], ◌∷◌, eqb, take, drop}
use Rattle.laws.specs.Bytes.{little}

-- the number that four bytes are, that many numbers on
unfoldable pub offset : List ℕ → ℕ → ℕ
offset row i = little (take 4 (drop (i % 4096 * 4) row))

-- the bytes from one place up to another, as far as the text has them
unfoldable pub part : List ℕ → ℕ → ℕ → List ℕ
part text from to = drop from (take to text)

-- the bytes before the first that is b; all of them where none is
unfoldable pub until : ℕ → List ℕ → List ℕ
until b [] = []
until b (x ∷ xs) = cond (eqb x b) [] (x ∷ until b xs)

-- the bytes of word j behind word k
unfoldable pub word_at : List ℕ → ℕ → ℕ → List ℕ
word_at row k j = part row (offset row (k % 2048 + j % 16 + 1)) (offset row (k % 2048 + j % 16 + 2))

-- a number with one digit more, modulo 2 to the power 32
abbrev pub more : ℕ → ℕ → ℕ
more n digit = (n * 10 + digit % 16) % 4294967296

-- a number with all these digits more
unfoldable pub decimal : ℕ → List ℕ → ℕ
decimal n [] = n
decimal n (digit ∷ digits) = decimal (more n digit) digits

-- the number that a word is in decimal
unfoldable pub number_at : List ℕ → ℕ → ℕ → ℕ
number_at row k j = decimal 0 (word_at row k j)
