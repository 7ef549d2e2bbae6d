-- What is left of a line.
use Rattle.std.specs.Prelude.{List}
use Rattle.json.specs.Lex.{Lexeme}
use Rattle.amm_command.specs.declared.plain.cursor.Cursor.{Cursor}
use Rattle.amm_command.specs.Spelled.{lexemes_of}

abbrev pub ahead : Cursor → List Lexeme
ahead line = lexemes_of line.rest.now
