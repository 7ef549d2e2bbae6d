-- What a value is made of where it is plainly written: strings with no escape, whole numbers, and
-- nothing or spaces between the parts.
use Rattle.std.specs.Prelude.{ℕ, Bool, ◌||◌, ◌==◌, List, [], ◌∷◌, ◌++◌, ⊤, ◌<◌, ◌^◌}
use Rattle.json.specs.Lex as lexemes
use Rattle.json.specs.Lex.{Lexeme, between, lex}
use Rattle.json.specs.Token as tokens
use Rattle.serde_json.specs.Data.{Data, Num, unsigned, negative, float, null, boolean, number, string, array, object, Items, no_items, item, items_depth}
use Rattle.serde_json.specs.View.{items_of}
use Rattle.serde_json.specs.Written.{number_text}

-- what a line is made of, from here to its end
abbrev pub lexemes_of : List ℕ → List Lexeme
lexemes_of text = lex between text

-- a space, a tab or a carriage return
abbrev pub is_blank : ℕ → Bool
is_blank b = b == 32 || (b == 9 || b == 13)

-- ---- what a value is made of

abbrev mutual
  pub spelled : Data → List Lexeme
  spelled null = lexemes.token tokens.null ∷ []
  spelled (boolean b) = lexemes.token (tokens.boolean b) ∷ []
  spelled (number n) = lexemes.token (tokens.number (number_text n)) ∷ []
  spelled (string s) = lexemes.token (tokens.string s) ∷ []
  spelled (array ds) = lexemes.token tokens.begin_array ∷ first_spelled ds
  spelled (object ms) = lexemes.token tokens.bad ∷ []

  -- the elements of an array and its bracket
  pub first_spelled : Items → List Lexeme
  first_spelled no_items = lexemes.token tokens.end_array ∷ []
  first_spelled (item d ds) = spelled d ++ next_spelled ds

  -- the elements behind one
  pub next_spelled : Items → List Lexeme
  next_spelled no_items = lexemes.token tokens.end_array ∷ []
  next_spelled (item d ds) = lexemes.comma ∷ (spelled d ++ next_spelled ds)

-- values, each behind a comma
abbrev pub behind : List Data → List Lexeme
behind [] = []
behind (d ∷ ds) = lexemes.comma ∷ (spelled d ++ behind ds)

-- values, each before a comma
abbrev pub leading : List Data → List Lexeme
leading [] = []
leading (d ∷ ds) = spelled d ++ lexemes.comma ∷ leading ds

-- values behind one, to the bracket
abbrev pub rest_spelled : List Data → List Lexeme
rest_spelled ds = next_spelled (items_of ds)

-- whole numbers below 2^64, strings, and arrays of these
abbrev mutual
  pub IsPlain : Data → Type 0
  IsPlain null = ⊤
  IsPlain (boolean b) = ⊤
  IsPlain (number (unsigned n)) = n < 2 ^ 64
  IsPlain (number (negative z)) = ⊥
  IsPlain (number (float x)) = ⊥
  IsPlain (string s) = ⊤
  IsPlain (array ds) = ItemsArePlain ds
  IsPlain (object ms) = ⊥

  pub ItemsArePlain : Items → Type 0
  ItemsArePlain no_items = ⊤
  ItemsArePlain (item d ds) = IsPlain d × ItemsArePlain ds

abbrev pub ArePlain : List Data → Type 0
ArePlain [] = ⊤
ArePlain (d ∷ ds) = IsPlain d × ArePlain ds

-- how deep the arrays nest that lie in these
abbrev pub inner_depth : List Data → ℕ
inner_depth ds = items_depth (items_of ds)
