-- A word of the code, in the model's terms.
use Rattle.tokens.specs.declared.word.Kind.{Kind}
use Rattle.tokens.specs.declared.word.Kind.TheVariants.{Name, Variable, Keyword, Number, Dash, Equals, Open, Close}
use Rattle.tokens.specs.declared.word.Word.{Word}
use Rattle.model.specs.Words as words

abbrev pub kind_of : Kind → words.Kind
kind_of Name = words.name
kind_of Variable = words.variable
kind_of Keyword = words.keyword
kind_of Number = words.number
kind_of Dash = words.dash
kind_of Equals = words.equals
kind_of Open = words.opens
kind_of Close = words.closes

abbrev pub word_of : Word → words.Word
word_of w = record { kind = kind_of w.kind; text = w.text.now; start = w.start }
